-- What reading a guard at a place comes to, for each strength of operator.
-- Assumes nothing.
use Rattle.std.specs.Prelude.{◌≡◌, false, List, ℕ, ◌+◌, ◌/◌, ◌≤◌, ◌<◌, ◌++◌, length, take, drop, Result, MatchResult}
use Rattle.stored.specs.Bytes.{byte_at}
use Rattle.phrases.specs.declared.items.Stopped.{Stopped}
use Rattle.grammar.specs.Items.{Operator, SIGN, mark_byte}
use Rattle.phrases.specs.Places.{NoGap}
use Rattle.grammar.specs.Guards.{Guard, strength, size}
use Rattle.grammar.specs.Records.{guard_records}
use Rattle.grammar.specs.Points.{Frame, groups, guarding, guarded, Phase, Point, Fresh}
use Rattle.grammar.specs.Bytewise.{ready, at, Outcome, stops, run}

-- the same point in another phase, with so many operands and operators read
abbrev pub in_phase : Point → ℕ → Phase → Point
in_phase p used phase = record { second = p.second; given = p.given; expect = p.expect; used = used; phase = phase }

-- where an operand is wanted, and where one has been read
abbrev pub wanting : ℕ → ℕ → List ℕ → ℕ → Point → ℕ → List Frame → Outcome
wanting k n text i p used fs = run k n i (at (ready false) (in_phase p used (guarding fs))) (drop i text)

abbrev pub having : ℕ → ℕ → List ℕ → ℕ → Point → ℕ → List Frame → Guard → Outcome
having k n text i p used fs g = run k n i (at (ready false) (in_phase p used (guarded fs g))) (drop i text)

-- operators of strength s and above do not stand here, nor does a gap
pub record Over (s : ℕ) (text : List ℕ) (q : ℕ) : Type 0 where
  pub inside : q ≤ length text
  pub no_gap : NoGap text q
  pub no_sign : q < length text → (o : Operator) → s ≤ strength o → ¬ (byte_at text q ≡ mark_byte (SIGN o))

-- how many records of eight bytes a list has
abbrev pub records_in : List ℕ → ℕ
records_in es = length es / 8

-- a guard that needs no brackets at strength s stands from i to q, where no operator of strength r and above does: its records are put
-- after those that were there, and reading comes to q with it
pub record GuardTo (s r k depth pending i : ℕ) (text es es' : List ℕ) (q : ℕ) : Type 0 where
  pub guard : Guard
  pub past : i < q
  pub over : Over r text q
  pub count : records_in es' ≡ records_in es + size guard
  pub few : records_in es' + pending ≤ 504
  pub put : es' ≡ es ++ guard_records (records_in es) guard
  pub comes : (n : ℕ) (p : Point) (fs : List Frame) → groups fs ≡ depth → Fresh s fs
      → wanting k n text i p (records_in es + pending) fs ≡ having k n text q p (records_in es' + pending) fs guard

-- none does: reading stops at j
pub record GuardNone (s k depth pending i : ℕ) (text es : List ℕ) (j : ℕ) : Type 0 where
  pub comes : (n : ℕ) (p : Point) (fs : List Frame) → groups fs ≡ depth → Fresh s fs → wanting k n text i p (records_in es + pending) fs ≡ stops j

-- one of the two; either way what was read before stays in front, and the list holds 504 records at most
pub record GuardAt (s k depth pending i : ℕ) (text es es' : List ℕ) (r : Result ℕ Stopped) : Type 0 where
  pub says : MatchResult r (GuardTo s s k depth pending i text es es') (λ j. GuardNone s k depth pending i text es j.at)
  pub kept : take (length es) es' ≡ es
  pub few : records_in es' ≤ 504

-- what a guard is read with: a place without a gap, room for one operand more
pub record GuardAsked (pending i : ℕ) (text es : List ℕ) : Type 0 where
  pub inside : i ≤ length text
  pub no_gap : NoGap text i
  pub one_more : records_in es + pending < 504
