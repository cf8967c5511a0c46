-- A record looked at where it stands, in the blocks or in a list by itself, keeps its rule exactly if the record taken out does.
-- Assumes nothing.
use Rattle.std.specs.Prelude.{Result, Option, None, Some}
use Rattle.std.proofs.Common.{◌≡◌, ℕ, ◌+◌, ◌*◌, ◌/◌, ◌%◌, ◌<◌, List, [], ◌∷◌, sym, refl, ap, ◌∙◌, arith}
use Rattle.scans.specs.Refusals.{Stage, in_order}
use Rattle.scans.proofs.Exactly.{in_order_same}
use Rattle.meaning.specs.Stated.{Stated}
use Rattle.stored.specs.declared.Refusal.{Refusal}
use Rattle.stored.specs.declared.Size.{Size}
use Rattle.scans.specs.Lists.{list_of}
use Rattle.stored.specs.Bytes.{byte_at, u16_at}
use Rattle.stored.specs.Layout.{Records, sizes_of, first_expressions, first_clauses, header_sizes, record_byte, records_of}
use Rattle.stored.specs.Rules.{operand_ok, node_ok, first_ok, second_ok, expression_ok, clause_ok}
use Rattle.stored.specs.Reading.{per_record, record_stages, refused}
use Rattle.stored.specs.Checked.{followed}
use Rattle.blocks.specs.Steps.{spot, spotted_stages, Follows}
use Rattle.scans.proofs.Lists.{list_of_at}
use Rattle.stored.proofs.Accepted.{read_sizes}

-- a rule looks at the eight bytes of its record only
module _ (s t : List ℕ) (a b : ℕ) (same : (f : ℕ) → f < 8 → byte_at s (a + f) ≡ byte_at t (b + f)) where
  byte_same : (p q f : ℕ) → p ≡ a + f → q ≡ b + f → f < 8 → byte_at s p ≡ byte_at t q
  byte_same p q f e g h = ap (byte_at s) e ∙ same f h ∙ sym (ap (byte_at t) g)

  u16_same : (p q f : ℕ) → p ≡ a + f → q ≡ b + f → f + 1 < 8 → u16_at s p ≡ u16_at t q
  u16_same p q f e g h = omega (arith, byte_same p q f e g (omega arith), byte_same (p + 1) (q + 1) (f + 1) (omega arith) (omega arith) h)

  code : byte_at s a ≡ byte_at t b
  code = byte_same a b 0 (omega arith) (omega arith) (omega arith)

  flag : byte_at s (a + 1) ≡ byte_at t (b + 1)
  flag = byte_same (a + 1) (b + 1) 1 (omega arith) (omega arith) (omega arith)

  half : (f : ℕ) → f < 7 → u16_at s (a + f) ≡ u16_at t (b + f)
  half f h = u16_same (a + f) (b + f) f refl refl (omega arith)

  operand_same : (n i : ℕ) → i < 3 → operand_ok n s a i ≡ operand_ok n t b i
  unfolding operand_ok
  operand_same n i h = rw (u16_same (a + 2 + 2 * i) (b + 2 + 2 * i) (2 + 2 * i) (omega arith) (omega arith) (omega arith), code)

  pub node_same : (n : ℕ) → node_ok n s a ≡ node_ok n t b
  unfolding node_ok
  node_same n = rw (operand_same n 0 (omega arith), operand_same n 1 (omega arith), operand_same n 2 (omega arith), flag, code)

  pub expression_same : (k i : ℕ) → expression_ok k i s a ≡ expression_ok k i t b
  unfolding expression_ok first_ok second_ok
  expression_same k i = rw (half 2 (omega arith), half 4 (omega arith), half 6 (omega arith), flag, code)

  pub clause_same : (n e : ℕ) → clause_ok n e s a ≡ clause_ok n e t b
  unfolding clause_ok
  clause_same n e = rw (half 2 (omega arith), half 4 (omega arith), half 6 (omega arith), flag, code)

-- a record in the blocks, and the same in the list taken out of them
pub in_blocks : (s : List ℕ) (first m i : ℕ) → i < m → (f : ℕ) → f < 8 → byte_at s (spot (Some first) i + f) ≡ byte_at (list_of (record_byte s first) (8 * m)) (8 * i + f)
unfolding record_byte
in_blocks s first m i l f g =
    let b : (8 * i + f) / 504 ≡ i / 63 = omega arith in
    let o : (8 * i + f) % 504 ≡ 8 * (i % 63) + f = omega arith in
    let e : 512 * (first + i / 63) + 4 + (8 * (i % 63) + f) ≡ 512 * (first + i / 63) + 4 + 8 * (i % 63) + f = omega arith in
    rw (list_of_at (record_byte s first) (8 * m) (8 * i + f) (omega arith), b, o, e)

-- the three stages, of records in these lists
abbrev stages_at : Records → Size → List Stage
stages_at r z =
    per_record 8 1 z.n (λ i. node_ok z.n r.nodes (8 * i))
    ∷ per_record 9 (first_expressions z) z.e (λ i. expression_ok z.k i r.expressions (8 * i))
    ∷ per_record 10 (first_clauses z) z.c (λ i. clause_ok z.n z.e r.clauses (8 * i))
    ∷ []

module _ (r : Records) (z : Size) (nodes : List ℕ) (n1 : Option ℕ) (expressions : List ℕ) (e1 : Option ℕ) (clauses : List ℕ) (c1 : Option ℕ) where
  spotted : sizes_of r ≡ z
      → ((i f : ℕ) → i < z.n → f < 8 → byte_at nodes (spot n1 i + f) ≡ byte_at r.nodes (8 * i + f))
      → ((i f : ℕ) → i < z.e → f < 8 → byte_at expressions (spot e1 i + f) ≡ byte_at r.expressions (8 * i + f))
      → ((i f : ℕ) → i < z.c → f < 8 → byte_at clauses (spot c1 i + f) ≡ byte_at r.clauses (8 * i + f))
      → (next : Stated) → in_order refused (spotted_stages z nodes n1 expressions e1 clauses c1) next ≡ in_order refused (record_stages r) next
  spotted sizes f g h next =
      in_order_same refused _ _ next (λ i. node_ok z.n r.nodes (8 * i)) _ (λ i l. node_same nodes r.nodes (spot n1 i) (8 * i) (λ o. f i o l) z.n)
      (in_order_same refused _ _ next (λ i. expression_ok z.k i r.expressions (8 * i)) _ (λ i l. expression_same expressions r.expressions (spot e1 i) (8 * i) (λ o. g i o l) z.k i)
      (in_order_same refused _ _ next (λ i. clause_ok z.n z.e r.clauses (8 * i)) _ (λ i l. clause_same clauses r.clauses (spot c1 i) (8 * i) (λ o. h i o l) z.n z.e) refl))
      ∙ ap (λ y. in_order refused (stages_at r y) next) (sym sizes)

-- in a stored job
pub rules_read : {res : Result Unit Refusal} (s : List ℕ) (z : Size) {e1 c1 : ℕ} → z ≡ header_sizes s → e1 ≡ first_expressions z → c1 ≡ first_clauses z
    → Follows z s (Some 1) s (Some e1) s (Some c1) res → (next : Stated) → followed res next ≡ in_order refused (record_stages (records_of s)) next
unfolding records_of
rules_read s z {e1} {c1} p q t follows next =
    follows.is next
    ∙ ap (λ e. in_order refused (spotted_stages z s (Some 1) s (Some e) s (Some c1)) next) q
    ∙ ap (λ c. in_order refused (spotted_stages z s (Some 1) s (Some (first_expressions z)) s (Some c)) next) t
    ∙ ap (λ y. in_order refused (spotted_stages y s (Some 1) s (Some (first_expressions y)) s (Some (first_clauses y))) next) p
    ∙ (let y = header_sizes s in
    spotted (records_of s) y s (Some 1) s (Some (first_expressions y)) s (Some (first_clauses y)) (read_sizes s)
    (λ i f l. in_blocks s 1 y.n i l f) (λ i f l. in_blocks s (first_expressions y) y.e i l f) (λ i f l. in_blocks s (first_clauses y) y.c i l f) next)

-- in record lists
pub rules_listed : {res : Result Unit Refusal} (r : Records) → Follows (sizes_of r) r.nodes None r.expressions None r.clauses None res
    → (next : Stated) → followed res next ≡ in_order refused (record_stages r) next
rules_listed r follows next =
    follows.is next ∙ spotted r (sizes_of r) r.nodes None r.expressions None r.clauses None refl (λ i f l h. refl) (λ i f l h. refl) (λ i f l h. refl) next
