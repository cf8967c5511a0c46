-- The gates with operands in one list: there are no more than nodes, and each kind stands where it was put.
-- Assumes nothing.
use Rattle.std.proofs.Common.{◌≡◌, ◌≢◌, refl, sym, ◌∙◌, ap, subst, ℕ, zero, suc, ◌+◌, ◌-◌, ◌≤◌, ◌<◌, cond, List, [], ◌∷◌, ◌++◌, length, take, drop, add-one, length-append, arith, All}
use Rattle.std.proofs.Math.Seq.{take-append_seam, drop-append_seam}
use Rattle.std.proofs.lemmas.List.{append-nil, append_assoc, length_push}
use Rattle.std.proofs.lemmas.List.Elements.{All-append, All-push}
use native.Mathlib.Decide.{dec_lt}
use borrow.Author.Tests.{eq-eqb, ne_eqb}
use lib.Dec.{eqb}
use Rattle.meaning.specs.declared.Gate.{Gate}
use Rattle.meaning.specs.declared.Gate.TheVariants.{Input, Zero, One, Buf, Not, And, Or, Xor, Mux}
use Rattle.meaning.specs.Gates.{gate_of_code}
use Rattle.meaning.specs.Jobs.{Job}
use Rattle.groups.specs.declared.wires.Wire.{Wire}
use Rattle.groups.specs.Wired.{InRow, Gathered}
use Rattle.groups.specs.Kinds.{kind, tally, Gathers, Sorted}
use Rattle.groups.proofs.WireLaws.{gathered_skip, gathered_more}

-- gates of one code are one gate
pub kind_same : (g h : Gate) → kind g ≡ kind h → g ≡ h
kind_same g h e = sym (back g) ∙ ap gate_of_code e ∙ back h
  where
    back : (g : Gate) → gate_of_code (kind g) ≡ g
    back Input = refl
    back Zero = refl
    back One = refl
    back Buf = refl
    back Not = refl
    back And = refl
    back Or = refl
    back Xor = refl
    back Mux = refl

pub tally_grows : (j : Job) (m n k : ℕ) → m ≤ n → tally j m k ≤ tally j n k
tally_grows j m zero k h = let e : m ≡ 0 = omega arith in rw e (omega arith)
tally_grows j m (suc n) k h = go (dec_lt n m) (tally_grows j m n k)
  where
    go : Dec (n < m) → (m ≤ n → tally j m k ≤ tally j n k) → tally j m k ≤ tally j (suc n) k
    go (yes l) b = let e : m ≡ suc n = omega arith in rw e (omega arith)
    go (no l) b = let h : tally j m k ≤ tally j n k = b (omega arith) in omega arith

-- a gate is of one of the six kinds at most
one_kind : (g : Gate) → cond (eqb (kind g) 3) 1 0 + (cond (eqb (kind g) 4) 1 0 + (cond (eqb (kind g) 5) 1 0 + (cond (eqb (kind g) 6) 1 0 + (cond (eqb (kind g) 7) 1 0 + cond (eqb (kind g) 8) 1 0)))) ≤ 1
one_kind Input = let h : 0 ≤ 1 = omega arith in h
one_kind Zero = let h : 0 ≤ 1 = omega arith in h
one_kind One = let h : 0 ≤ 1 = omega arith in h
one_kind Buf = let h : 1 ≤ 1 = omega arith in h
one_kind Not = let h : 1 ≤ 1 = omega arith in h
one_kind And = let h : 1 ≤ 1 = omega arith in h
one_kind Or = let h : 1 ≤ 1 = omega arith in h
one_kind Xor = let h : 1 ≤ 1 = omega arith in h
one_kind Mux = let h : 1 ≤ 1 = omega arith in h

pub few_gates : (j : Job) (n : ℕ) → tally j n 3 + (tally j n 4 + (tally j n 5 + (tally j n 6 + (tally j n 7 + tally j n 8)))) ≤ n
few_gates j zero = let h : 0 ≤ 0 = omega arith in h
few_gates j (suc n) =
    let before = few_gates j n in
    let here = one_kind (j.netlist.node n).gate in
    omega (arith, before, here)

pub gathers_none : (j : Job) (gate : Gate) (wires : List Wire) → Gathers j 0 gate wires wires
gathers_none j gate wires = record {
  more = [];
  is = sym (append-nil wires);
  count = refl;
  inside = λ k d l. absurd (omega arith);
  gathered = record { stands = λ k d l. absurd (omega arith); all = λ m l. absurd (omega arith) };
}

module _ {j : Job} {m : ℕ} {gate : Gate} {before after : List Wire} (g : Gathers j m gate before after) where
  pub gathers_skip : (j.netlist.node m).gate ≢ gate → Gathers j (m + 1) gate before after
  gathers_skip other = record {
    more = g.more;
    is = g.is;
    count = rw (add-one, ne_eqb (kind (j.netlist.node m).gate) (kind gate) (λ e. other (kind_same _ gate e))) (g.count ∙ omega arith);
    inside = g.inside;
    gathered = gathered_skip g.gathered other;
  }

  pub gathers_more : (w : Wire) → w.node ≡ m → j.netlist.node m ≡ record { gate = gate; p = w.p; q = w.q; r = w.r } → InRow w → Gathers j (m + 1) gate before (after ++ w ∷ [])
  gathers_more w here is inside = record {
    more = g.more ++ w ∷ [];
    is = ap (λ xs. xs ++ w ∷ []) g.is ∙ append_assoc before g.more (w ∷ []);
    count =
        let same : kind (j.netlist.node m).gate ≡ kind gate = ap (λ n. kind n.gate) is in
        rw (add-one, eq-eqb (kind (j.netlist.node m).gate) (kind gate) same) (length_push g.more w ∙ ap (λ n. n + 1) g.count);
    inside = All-push InRow g.more w g.inside inside;
    gathered = gathered_more g.gathered w here is;
  }

pub longer : {j : Job} {n : ℕ} {gate : Gate} {before after : List Wire} → Gathers j n gate before after → length after ≡ length before + tally j n (kind gate)
longer {before = before} g = ap length g.is ∙ length-append before g.more ∙ ap (λ k. length before + k) g.count

-- where one more has the gate, there is room for it
pub room : {j : Job} {m n : ℕ} {gate : Gate} {before after : List Wire} → Gathers j m gate before after → m < n → (j.netlist.node m).gate ≡ gate → length before + tally j n (kind gate) ≤ 1008 → length after < 1008
room {j} {m} {n} {gate} g l same few =
    let grows : tally j (suc m) (kind gate) ≤ tally j n (kind gate) = tally_grows j (suc m) n (kind gate) (omega arith) in
    let one : tally j (suc m) (kind gate) ≡ tally j m (kind gate) + 1 = rw (eq-eqb (kind (j.netlist.node m).gate) (kind gate) (ap kind same)) refl in
    let long = longer g in
    omega (arith, grows, one, long, few)

-- what was gathered after some wires stands behind them, whatever came later
record Behind (xs ys : List Wire) : Type 0 where
  rest : List Wire
  is : ys ≡ xs ++ rest

module _ {j : Job} {n : ℕ} {gate : Gate} {before after : List Wire} (g : Gathers j n gate before after) where
  behind : Behind before after
  behind = record { rest = g.more; is = g.is }

  further : {xs : List Wire} → Behind xs before → Behind xs after
  further {xs} b = record { rest = b.rest ++ g.more; is = g.is ∙ ap (λ ys. ys ++ g.more) b.is ∙ append_assoc xs b.rest g.more }

  more_inside : All InRow before → All InRow after
  more_inside h = subst (All InRow) (sym g.is) (All-append InRow before g.more h g.inside)

  piece : {all : List Wire} → Behind after all → Gathered j n gate (take (length after - length before) (drop (length before) all))
  piece {all} b = subst (Gathered j n gate) (sym is) g.gathered
    where
      long : length after - length before ≡ length g.more
      long = let e = ap length g.is ∙ length-append before g.more in omega arith

      is : take (length after - length before) (drop (length before) all) ≡ g.more
      is = rw (long, b.is, g.is, append_assoc before g.more b.rest, drop-append_seam before (g.more ++ b.rest)) (take-append_seam g.more b.rest)

-- the first kind
first_piece : {j : Job} {n : ℕ} {gate : Gate} {after all : List Wire} → Gathers j n gate [] after → Behind after all → Gathered j n gate (take (length after) all)
first_piece {j} {n} {gate} {after} g b = subst (Gathered j n gate) (sym (rw b.is (take-append_seam after b.rest) ∙ g.is)) g.gathered

pub sorted_of : {j : Job} {n : ℕ} {bufs nots ands ors xors muxes : List Wire} → Gathers j n Buf [] bufs → Gathers j n Not bufs nots → Gathers j n And nots ands → Gathers j n Or ands ors
    → Gathers j n Xor ors xors → Gathers j n Mux xors muxes → Sorted j n muxes (length bufs) (length nots) (length ands) (length ors) (length xors)
sorted_of {muxes = muxes} b n a o x m =
    let past_x = behind m in
    let past_o = further m (behind x) in
    let past_a = further m (further x (behind o)) in
    let past_n = further m (further x (further o (behind a))) in
    let past_b = further m (further x (further o (further a (behind n)))) in
    record {
      in_order = (omega (arith, longer n), omega (arith, longer a), omega (arith, longer o), omega (arith, longer x), omega (arith, longer m));
      inside = more_inside m (more_inside x (more_inside o (more_inside a (more_inside n (more_inside b (λ k d l. absurd (omega arith)))))));
      are_bufs = first_piece b past_b;
      are_nots = piece n past_n;
      are_ands = piece a past_a;
      are_ors = piece o past_o;
      are_xors = piece x past_x;
      are_muxes = piece m (record { rest = []; is = sym (append-nil muxes) });
    }
