-- From the rows to the row and the answer of the case.
-- Assumes nothing.
use Rattle.std.proofs.Common.{◌≡◌, refl, sym, ◌∙◌, ap, Option, None, Some, Bool, true, false, not, ℕ, zero, suc, ◌+◌, ◌<◌, ◌≤◌, List, length, take, get_or, add-one, subst, arith}
use Rattle.std.proofs.Math.Seq.{take-suc}
use Rattle.std.specs.Option.{is_some}
use Rattle.scans.specs.First.{first_bad, is_clear, each, place_in, first_place}
use Rattle.scans.proofs.Bools.{both_ways, is_false}
use Rattle.scans.proofs.Search.{stopped_at, each_e, each_suc, first_bad_same}
use Rattle.meaning.specs.declared.CaseAnswer.{CaseAnswer}
use Rattle.meaning.specs.declared.CaseAnswer.TheVariants.{Passes, Empty}
use Rattle.meaning.specs.Values.{collides, cell_number}
use Rattle.meaning.specs.Jobs.{Job, until, latest, last_time}
use Rattle.meaning.specs.Rows.{cell, row_clear, row_numbers}
use Rattle.meaning.specs.Cases.{met_at, answer_at, answer_of, case_answer}
use Rattle.meaning.proofs.Clauses.{latest_le}
use Rattle.decoded.specs.declared.Plan.{Plan}
use Rattle.decoded.specs.Plans.{clause_of}
use Rattle.decoded.specs.Meant.{job_in}
use Rattle.cases.specs.declared.rows.Run.{Run}
use Rattle.cases.specs.Cells.{cell_in, Shows}
use Rattle.cases.specs.Runs.{judged}
use Rattle.cases.proofs.SearchLaws.{first_of, place_suc, place_stays}

-- the last time of a plan's job
pub last_small : (p : Plan) → p.last < 256
unfolding until
last_small p = let h = latest_le (clause_of p.clauses) p.size.c {b = 255} (λ i l. omega (arith, (p.decoded.clause i l).time)) in omega (arith, p.last_is)

-- a run of case x that has come to time t
pub record Come (p : Plan) (x t : ℕ) (r : Run) : Type 0 where
  pub plan : r.plan.now ≡ p
  pub case : r.case ≡ x
  pub next : r.next ≡ t

pub come_more : {p : Plan} {x t : ℕ} {r r' : Run} → Come p x t r → r'.plan.now ≡ r.plan.now → r'.case ≡ r.case → r'.next ≡ r.next + 1 → Come p x (t + 1) r'
come_more c e q n = record { plan = e ∙ c.plan; case = q ∙ c.case; next = omega (arith, c.next) }

module _ (p : Plan) (x : ℕ) where
  abbrev j : Job
  j = job_in p

  -- node m has not collided at time t; it meets what is expected of it
  abbrev pub clear_at : ℕ → ℕ → Bool
  clear_at t m = not (collides (cell j x t m))

  abbrev pub met_here : ℕ → ℕ → Bool
  met_here t m = met_at j x t m (cell j x t m)

  -- the search for a collision has come to time t with none, and the first miss so far is answered
  pub record Searched (t : ℕ) (answer : CaseAnswer) : Type 0 where
    pub clear : first_place clear_at t p.size.n ≡ None
    pub is : answer ≡ answer_at j x (cell j x) None (first_place met_here t p.size.n)

  pub rows_none : each (row_clear j x) 0 ≡ true
  unfolding each first_bad
  rows_none = refl

  pub searched_none : Searched 0 Passes
  unfolding first_place first_bad
  searched_none = record { clear = refl; is = refl }

  -- the run shows the row of a time
  module _ (t : ℕ) {r : Run} (come : Come p x (t + 1) r) where
    shows : Shows p.size.n r.row (cell j x t)
    shows =
        let next : r.next ≡ suc t = omega (arith, come.next) in
        let P : Plan → Type 0 = λ q. Shows q.size.n r.row (cell (job_in q) r.case t) in
        let Q : ℕ → Type 0 = λ y. Shows p.size.n r.row (cell j y t) in
        subst Q come.case (subst P come.plan (r.before.shows t next))

    collided_in : first_bad (λ m. not (collides (cell_in r.row m))) r.plan.now.size.n ≡ first_bad (clear_at t) p.size.n
    collided_in = ap (λ q. first_bad (λ m. not (collides (cell_in r.row m))) q.size.n) come.plan ∙ first_bad_same _ _ p.size.n (λ m h. rw (shows.at m h))

    judged_in : judged (job_in r.plan.now) r.case t (cell_in r.row) ≡ answer_at j x (cell j x) None (place_in t (first_bad (met_here t) p.size.n))
    judged_in =
        let same : first_bad (λ m. met_at j x t m (cell_in r.row m)) p.size.n ≡ first_bad (met_here t) p.size.n = first_bad_same _ _ p.size.n (λ m h. rw (shows.at m h)) in
        ap (λ q. judged (job_in q) r.case t (cell_in r.row)) come.plan ∙ rw (come.case, same) (go (first_bad (met_here t) p.size.n) refl)
      where
        go : (b : Option ℕ) → first_bad (met_here t) p.size.n ≡ b → answer_at j x (λ _. cell_in r.row) None (place_in t b) ≡ answer_at j x (cell j x) None (place_in t b)
        go None e = refl
        go (Some m) e = rw (shows.at m (stopped_at (met_here t) p.size.n e).below)

    module _ {found : Option ℕ} (first : found ≡ first_bad (λ m. not (collides (cell_in r.row m))) r.plan.now.size.n) where
      row_clear_is : row_clear j x t ≡ not (is_some found)
      unfolding row_clear each
      row_clear_is = rw (← collided_in, ← first) (go found)
        where
          go : (r : Option ℕ) → is_clear r ≡ not (is_some r)
          go None = refl
          go (Some m) = refl

      -- up to now no node has collided
      pub rows_clear : each (row_clear j x) t ≡ true → is_some found ≡ false → each (row_clear j x) (suc t) ≡ true
      rows_clear before e = each_suc (row_clear j x) t ∙ rw (before, row_clear_is, e)

      -- one has
      pub rows_collide : (time : ℕ) → t ≤ time → is_some found ≡ true → each (row_clear j x) (suc time) ≡ false
      rows_collide time h e = is_false _ (λ a. both_ways (each_e (row_clear j x) (suc time) a t (omega arith)) (row_clear_is ∙ rw e))

    -- the row as numbers
    pub shown : (bytes : List ℕ) → p.size.n ≤ length bytes → ((m : ℕ) → m < p.size.n → get_or bytes m 0 ≡ cell_number (cell_in r.row m)) → take p.size.n bytes ≡ row_numbers j x t p.size.n
    unfolding row_numbers
    shown bytes long made = front p.size.n (omega arith)
      where
        front : (n : ℕ) → n ≤ p.size.n → take n bytes ≡ row_numbers j x t n
        front zero h = refl
        front (suc n) h = let e : get_or bytes n 0 ≡ cell_number (cell j x t n) = made n (omega arith) ∙ ap cell_number (shows.at n (omega arith)) in rw (take-suc bytes n 0 (omega arith), front n (omega arith), e)

    module _ {answer : CaseAnswer} (before : Searched t answer) {found : Option ℕ} (first : found ≡ first_bad (λ m. not (collides (cell_in r.row m))) r.plan.now.size.n) where
      -- the case is empty where a node collides
      pub searched_found : {m : ℕ} (last : ℕ) → t ≤ last → found ≡ Some m → first_place clear_at (suc last) p.size.n ≡ Some (t, m)
      searched_found last h e = place_stays clear_at p.size.n (suc t) (suc last) (omega arith) (place_suc clear_at p.size.n t ∙ rw (before.clear, ← collided_in, ← first, e))

      module _ (e : found ≡ None) where
        clear : first_place clear_at (suc t) p.size.n ≡ None
        clear = place_suc clear_at p.size.n t ∙ rw (before.clear, ← collided_in, ← first, e)

        -- where nothing was missed before, the row says what is
        pub searched_judged : answer ≡ Passes → {now : CaseAnswer} → now ≡ judged (job_in r.plan.now) r.case t (cell_in r.row) → Searched (t + 1) now
        searched_judged q {now} e = record { clear = rw add-one clear; is = rw (add-one, place_suc met_here p.size.n t) (e ∙ judged_in ∙ go (first_place met_here t p.size.n) (sym q ∙ before.is)) }
          where
            go : (b : Option (ℕ × ℕ)) → Passes ≡ answer_at j x (cell j x) None b
                → answer_at j x (cell j x) None (place_in t (first_bad (met_here t) p.size.n)) ≡ answer_at j x (cell j x) None (first_of b (place_in t (first_bad (met_here t) p.size.n)))
            go None e = refl
            go (Some (u, m)) e = absurd cc

        pub searched_stays : (answer ≡ Passes → ⊥) → Searched (t + 1) answer
        searched_stays q = record { clear = rw add-one clear; is = rw (add-one, place_suc met_here p.size.n t) (go (first_place met_here t p.size.n) before.is) }
          where
            go : (b : Option (ℕ × ℕ)) → answer ≡ answer_at j x (cell j x) None b → answer ≡ answer_at j x (cell j x) None (first_of b (place_in t (first_bad (met_here t) p.size.n)))
            go None e = absurd (q e)
            go (Some (u, m)) e = e

  -- so the searches to the last time give the case's answer
  module _ {last : ℕ} (l : last ≡ latest (clause_of p.clauses) p.size.c) where
    pub empty_is : {t m : ℕ} → first_place clear_at (suc last) p.size.n ≡ Some (t, m) → Empty t m ≡ case_answer j x
    unfolding case_answer answer_of last_time
    empty_is e = rw (rw l at e)

    pub answer_is : {answer : CaseAnswer} → Searched (suc last) answer → answer ≡ case_answer j x
    unfolding case_answer answer_of last_time
    answer_is s = s.is ∙ rw (rw l at s.clear, l)
