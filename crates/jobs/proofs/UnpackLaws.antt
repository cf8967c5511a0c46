-- The laws of unpacking: what reading refuses is refused, a list too short is refused, and otherwise the three lists hold the records.
-- Assumes nothing.
use Rattle.std.specs.Prelude.{Result, Ok, Err}
use Rattle.std.proofs.Common.{◌≡◌, ℕ, ◌*◌, ◌≤◌, Bool, true, List, [], ◌∷◌, ◌++◌, length, drop, sym, ap, ◌∙◌}
use Rattle.scans.specs.Refusals.{whole, in_order}
use Rattle.scans.proofs.Bools.{says}
use Rattle.scans.proofs.Exactly.{in_order_append, refused_still, passed_on}
use Rattle.meaning.specs.Stated.{Stated}
use Rattle.stored.specs.declared.Size.{Size}
use Rattle.stored.specs.declared.Refusal.{Refusal}
use Rattle.scans.specs.Lists.{list_of}
use Rattle.stored.specs.Layout.{first_expressions, first_clauses, header_sizes, record_byte, records_of}
use Rattle.stored.specs.Reading.{read_stages, refused, accepted_as, read_answer, room_ok, unpack_answer, lent, stated_read}
use Rattle.stored.specs.Broken.{blocks_in}
use Rattle.stored.specs.Operations.{Unpacks}
use Rattle.stored.specs.Checked.{checked, followed}
use Rattle.scans.proofs.Lists.{length_list_of}
use Rattle.stored.proofs.Accepted.{refused_done, accepted_sizes}
use Rattle.stored.proofs.CheckedLaws.{checking, passed_whole}

-- a lent list after a refusal is as it was
kept : {a : Stated} {m b l : ℕ} (written before : List ℕ) → a ≡ refused m b l → before ≡ lent a written before
unfolding lent
kept written before e = rw e

-- after an acceptance it holds what was written, and then the bytes that it had
wrote : {a : Stated} {written after : List ℕ} (before : List ℕ) (z : Size) (f : ℕ → ℕ) (n : ℕ) → a ≡ accepted_as z → written ≡ list_of f n → after ≡ list_of f n ++ drop n before → after ≡ lent a written before
unfolding lent
wrote before z f n e w p = rw (e, w, length_list_of f n) p

module _ (s nodes expressions clauses : List ℕ) where
  abbrev answer : Stated
  answer = unpack_answer s (length nodes) (length expressions) (length clauses)

  all_kept : (x : Refusal) → answer ≡ refused x.number x.block x.«record» → Unpacks s nodes expressions clauses nodes expressions clauses (Err x)
  all_kept x q =
      record {
        answer = sym q;
        nodes_are = kept (records_of s).nodes nodes q;
        expressions_are = kept (records_of s).expressions expressions q;
        clauses_are = kept (records_of s).clauses clauses q;
      }

  -- a refusal of reading
  pub unpack_refused : (x : Refusal) → stated_read (Err x) ≡ read_answer s → Unpacks s nodes expressions clauses nodes expressions clauses (Err x)
  unfolding read_answer unpack_answer
  unpack_refused x p =
      all_kept x
      (in_order_append refused (read_stages s (blocks_in s)) _ (accepted_as (header_sizes s))
      ∙ refused_still refused (read_stages s (blocks_in s)) (λ f. refused_done x.number x.block x.«record» (sym f)) (sym p) _)

  module _ (z : Size) (accepted : stated_read (Ok z) ≡ read_answer s) where
    z_is : z ≡ header_sizes s
    z_is = accepted_sizes s z (sym accepted)

    -- past reading's own refusals the room is asked for
    room_next : answer ≡ in_order refused (whole 13 (room_ok z (length nodes) (length expressions) (length clauses)) ∷ []) (accepted_as z)
    unfolding read_answer unpack_answer
    room_next =
        in_order_append refused (read_stages s (blocks_in s)) _ (accepted_as (header_sizes s))
        ∙ passed_on refused (read_stages s (blocks_in s)) (λ m b l. refused_done m b l) (sym accepted ∙ ap accepted_as z_is) _
        ∙ ap (λ y. in_order refused (whole 13 (room_ok y (length nodes) (length expressions) (length clauses)) ∷ []) (accepted_as y)) (sym z_is)

    module _ {t : Bool} {r : Result Unit Refusal} (test : t ≡ room_ok z (length nodes) (length expressions) (length clauses)) (made : r ≡ checked (whole 13 t)) where
      asked : answer ≡ followed r (accepted_as z)
      asked = rw (made, test) (room_next ∙ simp checking)

      -- a list is too short
      pub unpack_short : (x : Refusal) → r ≡ Err x → Unpacks s nodes expressions clauses nodes expressions clauses (Err x)
      unpack_short x e = all_kept x (asked ∙ ap (λ y. followed y (accepted_as z)) e)

      -- the lists are long enough
      pub unpack_fits : r ≡ Ok tt → (8 * z.n ≤ length nodes) × ((8 * z.e ≤ length expressions) × (8 * z.c ≤ length clauses))
      unpack_fits e = let w : room_ok z (length nodes) (length expressions) (length clauses) ≡ true = sym test ∙ passed_whole 13 t made e in simp says at w

      -- and written
      pub unpack_done : r ≡ Ok tt → {e1 c1 : ℕ} {nodes' expressions' clauses' : List ℕ} → e1 ≡ first_expressions z → c1 ≡ first_clauses z
          → nodes' ≡ list_of (record_byte s 1) (8 * z.n) ++ drop (8 * z.n) nodes
          → expressions' ≡ list_of (record_byte s e1) (8 * z.e) ++ drop (8 * z.e) expressions
          → clauses' ≡ list_of (record_byte s c1) (8 * z.c) ++ drop (8 * z.c) clauses
          → Unpacks s nodes expressions clauses nodes' expressions' clauses' (Ok z)
      unfolding records_of
      unpack_done e {e1} {c1} p q n x c =
          let a : answer ≡ accepted_as z = asked ∙ ap (λ y. followed y (accepted_as z)) e in
          record {
            answer = sym a;
            nodes_are = wrote nodes z (record_byte s 1) (8 * z.n) a (ap (λ y. list_of (record_byte s 1) (8 * y.n)) (sym z_is)) n;
            expressions_are = wrote expressions z (record_byte s e1) (8 * z.e) a (ap (λ y. list_of (record_byte s (first_expressions y)) (8 * y.e)) (sym z_is) ∙ ap (λ f. list_of (record_byte s f) (8 * z.e)) (sym p)) x;
            clauses_are = wrote clauses z (record_byte s c1) (8 * z.c) a (ap (λ y. list_of (record_byte s (first_clauses y)) (8 * y.c)) (sym z_is) ∙ ap (λ f. list_of (record_byte s f) (8 * z.c)) (sym q)) c;
          }
