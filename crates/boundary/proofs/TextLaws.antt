-- A text told: the promise determines all, and nothing is lost in the forty bytes.
-- Assumes nothing.
use mathlib.Core.Path.{◌≡◌, refl, sym, ◌∙◌, ap, subst}
use mathlib.Core.Bool.{Bool, true, false, cond}
use mathlib.Core.List.{List}
use native.Mathlib.Omega.{arith}
use Prim.Native.Nat.{ℕ, ◌+◌, ◌*◌, ◌/◌, ◌%◌, ◌<◌}
use lib.Dec.{leb, eqb}
use lib.ListN.{length, get_or}
use Rattle.meaning.specs.Stated.{Word, DONE, REFUSED, PASSES, EMPTY, FAILS, HOLDS, VACANT, Stated}
use Rattle.std.specs.Prelude.{Result, Ok, Err}
use Rattle.assertions.specs.declared.Written.{Written}
use Rattle.assertions.specs.declared.TextRefusal.{TextRefusal}
use Rattle.assertions.specs.declared.TextRefusal.TheVariants.{Header, Text, Room}
use Rattle.assertions.specs.Answering.{Why, Answered}
use Rattle.grammar.proofs.Counted.{expressions_count, clauses_count}
use Rattle.assertions.proofs.Determined.{text_determined}
use Rattle.boundary.specs.Answer.{answer_bytes}
use Rattle.boundary.specs.Told.{Told}
use Rattle.boundary.specs.Texts.{stated_text, TextTried, TextTold}
use Rattle.boundary.proofs.Fits.{Fits}
use Rattle.boundary.proofs.Apart.{answer_same}

-- two outcomes that the promise allows are equal
module _ (k n : ℕ) (text expressions clauses answer : List ℕ) {es cs a es' cs' a' : List ℕ} {r r' : ℕ} where
  tried_same : TextTried k n text expressions clauses answer es cs a r → TextTried k n text expressions clauses answer es' cs' a' r' → (r ≡ r') × (a ≡ a') × (es ≡ es') × (cs ≡ cs')
  tried_same x y =
      let (same, e_same, c_same) = text_determined k n text expressions clauses x.answered y.answered in
      let z : Told (stated_text x.read) answer a' r' = subst (λ w. Told (stated_text w) answer a' r') (sym same) y.told in
      (x.told.result_is ∙ sym z.result_is, x.told.answer_is ∙ sym z.answer_is, e_same, c_same)

  pub text_told_determined : TextTold k n text expressions clauses answer es cs a r → TextTold k n text expressions clauses answer es' cs' a' r' → (r ≡ r') × (a ≡ a') × (es ≡ es') × (cs ≡ cs')
  text_told_determined x y = go (leb 40 (length answer)) refl
    where
      go : (b : Bool) → leb 40 (length answer) ≡ b → (r ≡ r') × (a ≡ a') × (es ≡ es') × (cs ≡ cs')
      go true h = tried_same (x.tried h) (y.tried h)
      go false h =
          let (p, q, u, v) = x.untried h in
          let (p', q', u', v') = y.untried h in
          (p ∙ sym p', q ∙ sym q', u ∙ sym u', v ∙ sym v')

-- each number fits its four bytes
module _ (k n : ℕ) (text expressions clauses : List ℕ) (short : length text < 18446744073709551616) where
  why_fits : (r : TextRefusal) → Why k n text expressions clauses r → Fits 2 0 (stated_text (Err r))
  why_fits Header x = record { counted = refl; small = omega arith }
  why_fits (Text byte) x = record { counted = refl; small = omega (arith, x.1.within) }
  why_fits Room x = record { counted = refl; small = omega arith }

  fits : (es cs : List ℕ) (r : Result Written TextRefusal) → Answered k n text expressions clauses es cs r → Fits 2 0 (stated_text r)
  fits es cs (Ok w) x =
      record {
        counted = refl;
        small = omega (arith, x.says.e_is, x.says.c_is, expressions_count x.says.text, clauses_count x.says.text, x.says.reads.few_expressions, x.says.reads.few_clauses);
      }
  fits es cs (Err r) x = why_fits r x.says.why

  pub text_fit : {es cs : List ℕ} {r : Result Written TextRefusal} → Answered k n text expressions clauses es cs r → Fits 2 0 (stated_text r)
  text_fit {es} {cs} {r} = fits es cs r

-- so the bytes that are told determine the answer
refusal_back : ℕ → ℕ → TextRefusal
refusal_back number byte = cond (eqb number 4) Header (cond (eqb number 15) (Text byte) Room)

stated_back : Stated → Result Written TextRefusal
stated_back a = back a.word a.numbers
  where
    back : Word → List ℕ → Result Written TextRefusal
    back DONE ns = Ok (record { expressions = get_or ns 0 0; clauses = get_or ns 1 0 })
    back REFUSED ns = Err (refusal_back (get_or ns 0 0) (get_or ns 1 0 + 4294967296 * get_or ns 2 0))
    back PASSES ns = Err Room
    back EMPTY ns = Err Room
    back FAILS ns = Err Room
    back HOLDS ns = Err Room
    back VACANT ns = Err Room

back_stated : (r : Result Written TextRefusal) → stated_back (stated_text r) ≡ r
unfolding stated_back refusal_back
back_stated (Ok w) = refl
back_stated (Err Header) = refl
back_stated (Err (Text byte)) = let whole : byte % 4294967296 + 4294967296 * (byte / 4294967296) ≡ byte = omega arith in ap (λ b. Err (Text b)) whole
back_stated (Err Room) = refl

pub text_apart : (k n k' n' : ℕ) (text expressions clauses text' expressions' clauses' : List ℕ) {es cs es' cs' : List ℕ} {r r' : Result Written TextRefusal} → length text < 18446744073709551616 → length text' < 18446744073709551616
    → Answered k n text expressions clauses es cs r → Answered k' n' text' expressions' clauses' es' cs' r' → answer_bytes (stated_text r) ≡ answer_bytes (stated_text r') → r ≡ r'
text_apart k n k' n' text expressions clauses text' expressions' clauses' {r = r} {r'} l l' x y e =
    sym (back_stated r)
    ∙ ap stated_back (answer_same 2 0 (omega arith) (omega arith) _ _ (text_fit k n text expressions clauses l x) (text_fit k' n' text' expressions' clauses' l' y) e)
    ∙ back_stated r'
