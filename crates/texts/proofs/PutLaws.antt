-- Pieces put one after the other are one piece put; a piece put at the front.
-- Assumes nothing.
use mathlib.Core.Path.{◌≡◌, refl, sym, ◌∙◌, ap, subst}
use mathlib.Core.List.{List, [], ◌∷◌, ◌++◌, append_assoc}
use native.Mathlib.Numerals.{add-one}
use native.Mathlib.Omega.{arith}
use Prim.Native.Nat.{ℕ, suc, ◌+◌, ◌/◌, ◌%◌, ◌≤◌, ◌<◌}
use lib.ListN.{length, get_or, take, drop, set, length-append, length-set}
use lib.Seq.{length-take-le, set_split, append_snoc, take_all, take-suc, take_at, drop_at, drop-drop, paste-zero}
use Rattle.texts.specs.Decimals.{digit, decimal}
use Rattle.texts.specs.Putting.{Puts}
use Rattle.texts.proofs.DecimalLaws.{decimal_small, decimal_more}

pub puts_byte : (v at : ℕ) (d : List ℕ) → at < length d → Puts (v ∷ []) at d (set d at v) (at + 1)
puts_byte v at d h =
    record {
      end_is = refl;
      fits = omega arith;
      is = rw (add-one) (set_split d at v h ∙ sym (append_snoc (take at d) v (drop (suc at) d)));
      size = length-set d at v;
    }

pub puts_then : {p q : List ℕ} {a b e : ℕ} {d d' d'' : List ℕ} → Puts p a d d' b → Puts q b d' d'' e → Puts (p ++ q) a d d'' e
puts_then {p} {q} {a} {b} {e} {d} {d'} {d''} f g =
    let front : length (take a d ++ p) ≡ b = length-append (take a d) p ∙ omega (arith, length-take-le a d (omega (arith, f.end_is, f.fits)), f.end_is) in
    let same : take b d' ≡ take a d ++ p = ap (take b) f.is ∙ take_at (take a d ++ p) (drop b d) b front in
    let rest : drop e d' ≡ drop e d =
    ap (λ k. drop k d') g.end_is ∙ sym (drop-drop (length q) b d')
    ∙ ap (drop (length q)) (ap (drop b) f.is ∙ drop_at (take a d ++ p) (drop b d) b front)
    ∙ drop-drop (length q) b d ∙ ap (λ k. drop k d) (sym g.end_is) in
    record {
      end_is = omega (arith, f.end_is, g.end_is, length-append p q);
      fits = omega (arith, g.fits, f.size);
      is = g.is ∙ ap (λ s. s ++ q ++ drop e d') same ∙ ap (λ s. take a d ++ p ++ q ++ s) rest ∙ ap (λ s. s ++ drop e d) (append_assoc (take a d) p q);
      size = g.size ∙ f.size;
    }

-- the end in other words
pub ended_at : {piece : List ℕ} {at a b : ℕ} {d d' : List ℕ} → a ≡ b → Puts piece at d d' a → Puts piece at d d' b
ended_at {piece} {at} {d = d} {d'} = subst (Puts piece at d d')

-- a piece at the front: what stands there then
module _ {piece d d' : List ℕ} {end : ℕ} (p : Puts piece 0 d d' end) where
  pub front_is : take end d' ≡ piece
  front_is = ap (take end) p.is ∙ take_at piece (drop end d) end (omega (arith, p.end_is))

  pub front_length : end ≡ length (take end d')
  front_length = omega (arith, p.end_is, ap length front_is)

  pub front_all : d' ≡ piece ++ drop (length piece) d
  front_all = let e : end ≡ length piece = omega (arith, p.end_is) in p.is ∙ ap (λ j. piece ++ drop j d) e

-- a text byte by byte: its first i bytes are put
pub puts_none : (text : List ℕ) (at : ℕ) (d : List ℕ) → at + length text ≤ length d → Puts (take 0 text) at d d (at + 0)
puts_none text at d h = record { end_is = refl; fits = omega arith; is = paste-zero d at text; size = refl }

pub puts_more : (text : List ℕ) (at i : ℕ) {d d' : List ℕ} → Puts (take i text) at d d' (at + i) → i < length text → at + length text ≤ length d
    → Puts (take (i + 1) text) at d (set d' (at + i) (get_or text i 0)) (at + (i + 1))
puts_more text at i {d} {d'} p h l =
    let here : at + (i + 1) ≡ at + i + 1 = omega arith in
    let longer : take (i + 1) text ≡ take i text ++ (get_or text i 0 ∷ []) = rw add-one (take-suc text i 0 h) in
    rw (here, longer) (puts_then p (puts_byte (get_or text i 0) (at + i) d' (omega (arith, p.size))))

pub puts_all : (text : List ℕ) (at i : ℕ) {d d' : List ℕ} → Puts (take i text) at d d' (at + i) → length text ≤ i → Puts text at d d' (at + i)
puts_all text at i p h = rw (take_all i text h) at p

-- a number: its one digit, or the digits of its tenth part and one more
pub puts_small : {x at e : ℕ} {d d' : List ℕ} → x < 10 → Puts (digit x ∷ []) at d d' e → Puts (decimal x) at d d' e
puts_small {x} h p = rw (decimal_small x h) p

pub puts_longer : {x at b e : ℕ} {d d' d'' : List ℕ} → 10 ≤ x → Puts (decimal (x / 10)) at d d' b → Puts (digit (x % 10) ∷ []) b d' d'' e → Puts (decimal x) at d d'' e
puts_longer {x} h p q = rw (decimal_more x h) (puts_then p q)
