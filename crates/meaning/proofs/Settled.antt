-- No answer depends on what stands in the rows after the first collision: rows that go on there in any way give the same answer.
-- Assumes nothing.
use mathlib.Core.Path.{◌≡◌, refl, sym, ◌∙◌, ap, subst}
use mathlib.Core.Logic.{inl, ⊎_elim, ◌↔◌}
use mathlib.Core.Bool.{Bool, true, false, not, cond}
use Prim.Native.Nat.{ℕ, zero, suc, ◌≤◌, ◌<◌}
use native.Mathlib.Omega.{arith}
use lib.Dec.{T, ltb, ltb→lt}
use Rattle.meaning.specs.declared.CaseAnswer.{CaseAnswer}
use Rattle.meaning.specs.declared.CaseAnswer.TheVariants.{Passes, Empty, Fails}
use Rattle.meaning.specs.Values.{Cell, value, v_x, join_cells, collides, has, bit, cell_number}
use Rattle.meaning.specs.Gates.{arity}
use Rattle.meaning.specs.declared.Node.{Node}
use Rattle.meaning.specs.Jobs.{operand, Job, WellFormed}
use Rattle.meaning.specs.Rows.{stimulus_at, read_cell, forces_from, forced, cell}
use Rattle.meaning.specs.Cases.{answer_of, case_answer}
use Rattle.meaning.proofs.Values.{Free}
use Rattle.meaning.proofs.Described.{In, NoCollision, MissedAt, Describes, described, answer_is}

-- two rows that agree on the nodes of a netlist: a gate forces the same from both
module _ (d : Node) (row row' : ℕ → Cell) (size : ℕ) (inside : (i : ℕ) → i < arity d.gate → operand d i < size) (same : (m : ℕ) → m < size → row m ≡ row' m) where
  read_same : (i : ℕ) → read_cell d row i ≡ read_cell d row' i
  read_same i = go (ltb i (arity d.gate)) (λ t. same (operand d i) (inside i (ltb→lt i _ t)))
    where
      go : (b : Bool) → (T b → row (operand d i) ≡ row' (operand d i)) → cond b (row (operand d i)) (value v_x) ≡ cond b (row' (operand d i)) (value v_x)
      go true g = g tt
      go false g = refl

  pub forces_same : forces_from d row ≡ forces_from d row'
  unfolding forces_from
  forces_same = rw (read_same 0, read_same 1, read_same 2)

-- rows by 01's rule as long as nothing has collided, and after that any rows
pub record Rows (j : Job) (x : ℕ) (rows : ℕ → ℕ → Cell) : Type 0 where
  pub first : (n : ℕ) → n < j.netlist.size → rows 0 n ≡ join_cells (value v_x) (stimulus_at j x 0 n)
  pub next : (t : ℕ) → ((m : ℕ) → m < j.netlist.size → Free (rows t m)) → (n : ℕ) → n < j.netlist.size
      → rows (suc t) n ≡ join_cells (forces_from (j.netlist.node n) (rows t)) (stimulus_at j x (suc t) n)

module _ (j : Job) (w : WellFormed j) (x : ℕ) (rows : ℕ → ℕ → Cell) (r : Rows j x rows) where
  -- up to the first collision they are the rows
  same_rows : (t : ℕ) → ((u m : ℕ) → u < t → m < j.netlist.size → Free (rows u m)) → (n : ℕ) → n < j.netlist.size → rows t n ≡ cell j x t n
  unfolding cell forced
  same_rows zero f n h = r.first n h
  same_rows (suc t) f n h =
      r.next t (λ m. f t m (omega arith)) n h
      ∙ ap (λ c. join_cells c (stimulus_at j x (suc t) n))
      (forces_same (j.netlist.node n) (rows t) (cell j x t) j.netlist.size (λ i. w.operand_in n i h) (same_rows t (λ u m l. f u m (omega arith))))

  clear_same : NoCollision j rows → (t n : ℕ) → In j t n → rows t n ≡ cell j x t n
  clear_same f t n h = same_rows t (λ u m l k. f u m (omega arith, k)) n h.1

  missed_both : {t n i : ℕ} → rows t n ≡ cell j x t n → MissedAt j x rows t n i ↔ MissedAt j x (cell j x) t n i
  missed_both {i = i} e = (
    (λ m. record { asks = m.asks; differs = subst (λ c. T (not (has c (bit (j.clause i).value)))) e m.differs }),
    (λ m. record { asks = m.asks; differs = subst (λ c. T (not (has c (bit (j.clause i).value)))) (sym e) m.differs }),
  )

  free_same : NoCollision j rows → NoCollision j (cell j x)
  free_same f t n h = subst (λ c. Free c) (clear_same f t n h) (f t n h)

  carry : (a : CaseAnswer) → Describes j x rows a → Describes j x (cell j x) a
  carry Passes d =
      record { free = free_same d.free; clean = λ t n h i m. d.clean t n h i ((missed_both (clear_same d.free t n h)).1 m) }
  carry (Empty t n) d =
      let e : (u m : ℕ) → u ≤ t → m < j.netlist.size → rows u m ≡ cell j x u m =
      λ u m l h. same_rows u (λ v k b g. d.before v k (omega arith, g) (inl (omega arith))) m h in
      record {
        place = d.place;
        here = subst (λ c. T (collides c)) (e t n (omega arith) d.place.1) d.here;
        before = λ u m h b. subst (λ c. Free c) (e u m (⊎_elim (λ l. omega arith) (λ l. omega arith) b) h.1) (d.before u m h b);
      }
  carry (Fails t n v f) d =
      let e = clear_same d.free in
      let here = e t n d.place in
      record {
        free = free_same d.free;
        place = d.place;
        here = (d.here.0, (missed_both here).0 d.here.1);
        before = λ u m h b i k. d.before u m h b i ((missed_both (e u m h)).1 k);
        found_is = d.found_is ∙ ap cell_number here;
        wanted_0 = ((λ z. let q = d.wanted_0.0 z in (q.0, (missed_both here).0 q.1, q.2)), (λ q. d.wanted_0.1 (q.0, (missed_both here).1 q.1, q.2)));
        wanted_1 = d.wanted_1;
      }

  pub settled : answer_of j x rows ≡ case_answer j x
  settled = answer_is j x (carry (answer_of j x rows) (described j x rows))
