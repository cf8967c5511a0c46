-- What reading a text answers: each refusal, and the records written.
-- Assumes nothing.
use mathlib.Core.Path.{◌≡◌, refl, sym, ◌∙◌, ap, subst}
use mathlib.Core.Bool.{Bool, true, false, ◌&&◌}
use mathlib.Core.List.{List, ◌++◌}
use native.Mathlib.Omega.{arith}
use Prim.Native.Nat.{ℕ, ◌*◌, ◌≤◌}
use lib.Dec.{leb}
use lib.ListN.{length, drop}
use Rattle.scans.proofs.Bools.{says, both_ways}
use Rattle.stored.specs.Broken.{Limits}
use Rattle.stored.proofs.RuleTests.{limits_rule}
use Rattle.std.specs.Prelude.{Ok, Err}
use Rattle.assertions.specs.declared.TextRefusal.TheVariants.{Text, Room as ListTooShort}
use Rattle.grammar.specs.Grammar.{Reads, limits}
use Rattle.assertions.specs.Answering.{Room, Answered}
use Rattle.assertions.specs.TextsRead.{TextTo, TextNone}
use Rattle.grammar.proofs.Readings.{read_is, stop_is}

-- k and n are tested first
within : (k n : ℕ) {t : Bool} → t ≡ limits k n → t ≡ true → limits k n ≡ true
within k n {t} t-is h = sym t-is ∙ h

kept : (k n : ℕ) → limits k n ≡ true → Limits (record { k = k; n = n; e = 0; c = 0 })
kept k n l = (limits_rule (record { k = k; n = n; e = 0; c = 0 })).0 l

pub limits_few : (k n : ℕ) {t : Bool} → t ≡ limits k n → t ≡ true → (k ≤ 12) × (n ≤ 65536)
limits_few k n t-is h = let l = kept k n (within k n t-is h) in (l.k_most, omega (arith, l.n_most))

pub refused_text : (k n : ℕ) {text es cs expressions clauses : List ℕ} {j : ℕ} {t : Bool} → t ≡ limits k n → t ≡ true → TextNone k n text es cs j → Answered k n text expressions clauses expressions clauses (Err (Text j))
refused_text k n {text} t-is h x =
    let w = within k n t-is h in
    let l = kept k n w in
    record { says = record { why = (w, stop_is k n (omega (arith, l.k_most)) l.n_least text x.comes); expressions_stay = refl; clauses_stay = refl } }

module _ (k n : ℕ) {text es cs : List ℕ} {t : Bool} (t-is : t ≡ limits k n) (h : t ≡ true) (x : TextTo k n text es cs) where
  read_as : Reads k n x.t text
  read_as = let l = kept k n (within k n t-is h) in read_is k n (omega (arith, l.k_most)) l.n_least text x.comes

  module _ {expressions clauses : List ℕ} {u : Bool} (u-is : u ≡ leb (length es) (length expressions) && leb (length cs) (length clauses)) where
    pub refused_room : u ≡ false → Answered k n text expressions clauses expressions clauses (Err ListTooShort)
    refused_room l =
        record {
          says = record {
            why = (within k n t-is h, record { text = x.t; reads = read_as; short = λ room. no_room room });
            expressions_stay = refl;
            clauses_stay = refl;
          };
        }
      where
        no_room : ¬ Room x.t expressions clauses
        no_room room =
            let yes_room : leb (length es) (length expressions) && leb (length cs) (length clauses) ≡ true = simp says (omega (arith, room.0, ap length x.es_are), omega (arith, room.1, ap length x.cs_are)) in
            both_ways yes_room (sym u-is ∙ l)

    pub written : {expressions' clauses' : List ℕ} {e c : ℕ} → u ≡ true → expressions' ≡ es ++ drop (length es) expressions → clauses' ≡ cs ++ drop (length cs) clauses → 8 * e ≡ length es → 8 * c ≡ length cs
        → Answered k n text expressions clauses expressions' clauses' (Ok (record { expressions = e; clauses = c }))
    written {expressions'} {clauses'} l p q e_is c_is =
        let r = simp says at (sym u-is ∙ l) in
        record {
          says = record {
            in_limits = within k n t-is h;
            text = x.t;
            reads = read_as;
            room = (omega (arith, r.0, ap length x.es_are), omega (arith, r.1, ap length x.cs_are));
            expressions_are = subst (λ s. expressions' ≡ s ++ drop (length s) expressions) x.es_are p;
            clauses_are = subst (λ s. clauses' ≡ s ++ drop (length s) clauses) x.cs_are q;
            e_is = omega (arith, e_is, ap length x.es_are);
            c_is = omega (arith, c_is, ap length x.cs_are);
          };
        }
