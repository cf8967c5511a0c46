-- The laws of packing: each refusal leaves the output as it was, and otherwise it holds the stored job.
-- Assumes nothing.
use Rattle.std.specs.Prelude.{Result, Ok, Err, None}
use Rattle.std.proofs.Common.{◌≡◌, ℕ, ◌*◌, ◌<◌, ◌≤◌, Bool, true, leb, List, [], ◌∷◌, ◌++◌, length, drop, sym, ap, ◌∙◌, arith, leb-true}
use Rattle.scans.specs.Refusals.{whole, in_order}
use Rattle.scans.proofs.Exactly.{in_order_append}
use Rattle.stored.specs.declared.Size.{Size}
use Rattle.stored.specs.declared.Refusal.{Refusal}
use Rattle.stored.specs.Layout.{Records, sizes_of, blocks_of, stored}
use Rattle.stored.specs.Rules.{limits_ok}
use Rattle.stored.specs.Reading.{record_stages, refused, lent}
use Rattle.stored.specs.Packing.{lists_ok, pack_stages, written, pack_answer}
use Rattle.stored.specs.Operations.{Packs}
use Rattle.stored.specs.Checked.{checked, followed}
use Rattle.blocks.specs.Narrow.{Narrow}
use Rattle.blocks.specs.Steps.{Follows}
use Rattle.scans.proofs.Lists.{length_list_of}
use Rattle.stored.proofs.CheckedLaws.{checking, passed_whole}
use Rattle.stored.proofs.RuleTests.{limits_rule}
use Rattle.blocks.proofs.Spots.{rules_listed}

-- sizes within the limits are small
module _ (z : Size) {h : Bool} {header : Result Unit Refusal} (limits : h ≡ limits_ok z) (made : header ≡ checked (whole 4 h)) (passed : header ≡ Ok tt) where
  within : limits_ok z ≡ true
  within = sym limits ∙ passed_whole 4 h made passed

  pub limits_narrow : Narrow z
  limits_narrow =
      let l = (limits_rule z).0 within in
      record { n = omega arith; e = omega arith; c = omega arith }

  pub limits_small : z.k < 256
  limits_small =
      let l = (limits_rule z).0 within in
      omega arith

module _ (r : Records) (out : List ℕ) where
  abbrev size : ℕ
  size = 512 * blocks_of (sizes_of r)

  -- a refusal leaves the output as it was
  pub pack_refused : (x : Refusal) → pack_answer r (length out) ≡ refused x.number x.block x.«record» → Packs r out out (Err x)
  unfolding lent
  pack_refused x q = record { answer = sym q; out_is = rw q }

  -- what is written, once nothing is refused
  pub pack_done : {bytes : ℕ} {out' : List ℕ} → pack_answer r (length out) ≡ written size → bytes ≡ size → out' ≡ stored r ++ drop size out → Packs r out out' (Ok bytes)
  unfolding stored lent
  pack_done q e w = record { answer = ap written e ∙ sym q; out_is = rw (q, length_list_of) w }

  module _ {lists header : Result Unit Refusal} {l h : Bool} (by_lists : l ≡ lists_ok r) (made : lists ≡ checked (whole 1 l)) (by_limits : h ≡ limits_ok (sizes_of r)) (made' : header ≡ checked (whole 4 h)) where
    -- 1 LENGTH and 4 HEADER come first
    pub pack_start : pack_answer r (length out) ≡ followed lists (followed header (in_order refused (record_stages r) (in_order refused (whole 13 (leb size (length out)) ∷ []) (written size))))
    unfolding pack_answer
    pack_start = rw (made, by_lists, made', by_limits) (in_order_append refused (pack_stages r) _ (written size) ∙ simp checking)

    -- then 8 GATE, 9 EXPRESSION, 10 CLAUSE, and 13 ROOM last
    pub pack_table : {rules room : Result Unit Refusal} {bytes : ℕ} → Follows (sizes_of r) r.nodes None r.expressions None r.clauses None rules → bytes ≡ size → room ≡ checked (whole 13 (leb bytes (length out)))
        → pack_answer r (length out) ≡ followed lists (followed header (followed rules (followed room (written size))))
    pack_table {rules} {room} follows e asked =
        let last : in_order refused (whole 13 (leb size (length out)) ∷ []) (written size) ≡ followed room (written size) = rw (asked, e) (simp checking) in
        pack_start ∙ ap (λ x. followed lists (followed header x)) (sym (rules_listed r follows _) ∙ ap (followed rules) last)

  -- an output that is long enough
  pub pack_fits : {bytes : ℕ} {room : Result Unit Refusal} → bytes ≡ size → room ≡ checked (whole 13 (leb bytes (length out))) → room ≡ Ok tt → size ≤ length out
  pack_fits {bytes} e made p = let w = leb-true bytes (length out) (passed_whole 13 _ made p) in omega arith
