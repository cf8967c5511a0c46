-- An accepted job's lists, decoded where they stand, are the job that its bytes mean, and every reference in them is within bounds.
-- Assumes nothing.
use Rattle.std.proofs.Common.{◌≡◌, refl, sym, ◌∙◌, ap, subst, true, ◌&&◌, ltb, ℕ, zero, suc, ◌+◌, ◌*◌, ◌≤◌, ◌<◌, List, [], ◌∷◌, length, slice_index_or, arith}
use Rattle.std.specs.Prelude.{Result, Ok}
use mathlib.Core.Path.{fun_ext}
use native.Mathlib.Decide.{dec_lt}
use borrow.Author.Tests.{lt-ltb}
use lib.ListN.{get_or, get_or-eq_default}
use Rattle.meaning.specs.declared.Node.{Node}
use Rattle.meaning.specs.declared.Expression.{Expression}
use Rattle.meaning.specs.declared.Expression.TheVariants.{False, True, Variable, Not, And, Or, Xor}
use Rattle.meaning.specs.declared.Clause.{Clause}
use Rattle.scans.specs.Lists.{list_of}
use Rattle.scans.proofs.Lists.{list_of_past}
use Rattle.stored.specs.declared.Size.{Size}
use Rattle.stored.specs.declared.Refusal.{Refusal}
use Rattle.stored.specs.Bytes.{byte_at, u16_at}
use Rattle.stored.specs.Layout.{sizes_of, first_expressions, first_clauses, header_sizes, record_byte, records_of}
use Rattle.stored.specs.Reading.{accepted_as, read_answer, stated_read}
use Rattle.stored.specs.Broken.{Limits, ExpressionRule}
use Rattle.stored.specs.Decoding.{node_at, expression_at, clause_at, job_of}
use Rattle.stored.proofs.Accepted.{accepted_sizes}
use Rattle.stored.proofs.Promise.{Promise, accepted_promise}
use Rattle.blocks.specs.Narrow.{Narrow}
use Rattle.decoded.specs.declared.Plan.{Plan}
use Rattle.stored.specs.EightBytes.{ByEightBytes}
use Rattle.stored.proofs.EightBytes.{node_by_eight, expression_by_eight, clause_by_eight}
use Rattle.ready.specs.Readied.{Ready}
use Rattle.decoded.specs.Plans.{no_node, no_clause, node_of, expression_of, clause_of, job_from, names_earlier, Decoded}

-- what was answered is reading's answer
pub accepted : (s : List ℕ) {r : Result Size Refusal} {z : Size} → stated_read r ≡ read_answer s → r ≡ Ok z → read_answer s ≡ accepted_as z
accepted s e q = sym e ∙ ap stated_read q

-- an expression that keeps its rule names a variable, or earlier expressions
module _ (k i : ℕ) (s : List ℕ) (at : ℕ) (rule : ExpressionRule k i s at) where
  abbrev a : ℕ
  a = u16_at s (at + 2)

  abbrev b : ℕ
  b = u16_at s (at + 4)

  first : 3 ≤ byte_at s at → ltb a i ≡ true
  first h = lt-ltb a i (rule.first h)

  both : 4 ≤ byte_at s at → (ltb a i && ltb b i) ≡ true
  both h = rw (lt-ltb a i (rule.first (omega arith)), lt-ltb b i (rule.second h))

  named_by : (op : ℕ) → byte_at s at ≡ op → names_earlier k i (get_or (False ∷ True ∷ Variable a ∷ Not a ∷ And a b ∷ Or a b ∷ Xor a b ∷ []) op False) ≡ true
  named_by zero e = refl
  named_by (suc zero) e = refl
  named_by (suc (suc zero)) e = lt-ltb a k (rule.variable e)
  named_by (suc (suc (suc zero))) e = first (omega arith)
  named_by (suc (suc (suc (suc zero)))) e = both (omega arith)
  named_by (suc (suc (suc (suc (suc zero))))) e = both (omega arith)
  named_by (suc (suc (suc (suc (suc (suc zero)))))) e = both (omega arith)
  named_by (suc (suc (suc (suc (suc (suc (suc n))))))) e = refl

  named : names_earlier k i (expression_at s at) ≡ true
  unfolding expression_at
  named = named_by (byte_at s at) refl

-- a list of as many values as there is room, decoded from records: past the records too, where both have zeros
held : {A : Type 0} {value_at : List ℕ → ℕ → A} (none : A) → ByEightBytes value_at → value_at [] 0 ≡ none
    → (f : ℕ → ℕ) (count room : ℕ) (values : List A) → count ≤ room → length values ≡ room
    → ((i : ℕ) (d : A) → i < room → slice_index_or values i d ≡ value_at (list_of f (8 * count)) (8 * i))
    → (i : ℕ) → slice_index_or values i none ≡ value_at (list_of f (8 * count)) (8 * i)
held {value_at = value_at} none by_eight empty f count room values few long each i = go (dec_lt i room)
  where
    go : Dec (i < room) → slice_index_or values i none ≡ value_at (list_of f (8 * count)) (8 * i)
    go (yes h) = each i none h
    go (no h) =
        get_or-eq_default values none (omega arith) ∙ sym empty
        ∙ by_eight [] (list_of f (8 * count)) 0 (8 * i) (λ o l. sym (list_of_past f (8 * count) (8 * i + o) (omega arith)))

no_node_is : node_at [] 0 ≡ no_node
unfolding node_at
no_node_is = refl

no_expression_is : expression_at [] 0 ≡ False
unfolding expression_at
no_expression_is = refl

no_clause_is : clause_at [] 0 ≡ no_clause
unfolding clause_at
no_clause_is = refl

module _ (s : List ℕ) (z : Size) (e : read_answer s ≡ accepted_as z) where
  sizes_are : sizes_of (records_of s) ≡ z
  sizes_are = (accepted_promise s z e).2

  promise : Promise (records_of s)
  promise = (accepted_promise s z e).0

  limits : Limits z
  limits = subst Limits sizes_are promise.limits

  pub narrow : Narrow z
  narrow = let l = limits in record { n = omega (arith, l.n_most); e = omega (arith, l.e_most); c = omega (arith, l.c_most) }

  header_is : header_sizes s ≡ z
  header_is = sym (accepted_sizes s z e)

  nodes_are : (records_of s).nodes ≡ list_of (record_byte s 1) (8 * z.n)
  unfolding records_of
  nodes_are = ap (λ (y : Size). list_of (record_byte s 1) (8 * y.n)) header_is

  expressions_are : (records_of s).expressions ≡ list_of (record_byte s (first_expressions z)) (8 * z.e)
  unfolding records_of
  expressions_are = ap (λ (y : Size). list_of (record_byte s (first_expressions y)) (8 * y.e)) header_is

  clauses_are : (records_of s).clauses ≡ list_of (record_byte s (first_clauses z)) (8 * z.c)
  unfolding records_of
  clauses_are = ap (λ (y : Size). list_of (record_byte s (first_clauses y)) (8 * y.c)) header_is

  k_is : z.k ≡ (records_of s).k
  unfolding records_of
  k_is = sym (ap (λ (y : Size). y.k) header_is)

  module _ (nodes : List Node) (expressions : List Expression) (clauses : List Clause) (e1 c1 : ℕ)
      (pe : e1 ≡ first_expressions z) (pc : c1 ≡ first_clauses z)
      (ln : length nodes ≡ 1008) (le : length expressions ≡ 504) (lc : length clauses ≡ 504)
      (ns : (i : ℕ) (d : Node) → i < 1008 → slice_index_or nodes i d ≡ node_at (list_of (record_byte s 1) (8 * z.n)) (8 * i))
      (es : (i : ℕ) (d : Expression) → i < 504 → slice_index_or expressions i d ≡ expression_at (list_of (record_byte s e1) (8 * z.e)) (8 * i))
      (cs : (i : ℕ) (d : Clause) → i < 504 → slice_index_or clauses i d ≡ clause_at (list_of (record_byte s c1) (8 * z.c)) (8 * i)) where
    node_is : (i : ℕ) → node_of nodes i ≡ node_at (records_of s).nodes (8 * i)
    node_is i = held no_node node_by_eight no_node_is (record_byte s 1) z.n 1008 nodes limits.n_most ln ns i ∙ ap (λ l. node_at l (8 * i)) (sym nodes_are)

    expression_is : (i : ℕ) → expression_of expressions i ≡ expression_at (records_of s).expressions (8 * i)
    expression_is i =
        held False expression_by_eight no_expression_is (record_byte s e1) z.e 504 expressions limits.e_most le es i
        ∙ ap (λ f. expression_at (list_of (record_byte s f) (8 * z.e)) (8 * i)) pe ∙ ap (λ l. expression_at l (8 * i)) (sym expressions_are)

    clause_is : (i : ℕ) → clause_of clauses i ≡ clause_at (records_of s).clauses (8 * i)
    clause_is i =
        held no_clause clause_by_eight no_clause_is (record_byte s c1) z.c 504 clauses limits.c_most lc cs i
        ∙ ap (λ f. clause_at (list_of (record_byte s f) (8 * z.c)) (8 * i)) pc ∙ ap (λ l. clause_at l (8 * i)) (sym clauses_are)

    -- the lists are the job
    pub means_is : job_from z nodes expressions clauses ≡ job_of (records_of s)
    unfolding job_of
    means_is =
        let p = fun_ext node_is in
        let q = fun_ext expression_is in
        let r = fun_ext clause_is in
        let n : z.n ≡ (sizes_of (records_of s)).n = sym (ap (λ (y : Size). y.n) sizes_are) in
        let c : z.c ≡ (sizes_of (records_of s)).c = sym (ap (λ (y : Size). y.c) sizes_are) in
        λ i. record { variables = k_is i; netlist = record { size = n i; node = p i }; expressions = q i; count = c i; clause = r i }

    below : {x : ℕ} → x < (sizes_of (records_of s)).n → x < z.n
    below {x} h = subst (λ y. x < y.n) sizes_are h

    -- and they can be indexed by what stands in them
    pub decoded_is : Decoded z nodes expressions clauses
    unfolding node_at clause_at
    decoded_is =
        let l = limits in
        record {
          k_most = l.k_most;
          n_least = l.n_least;
          n_most = l.n_most;
          e_most = l.e_most;
          c_most = l.c_most;
          nodes_long = omega (arith, l.n_most);
          expressions_long = omega (arith, l.e_most);
          clauses_long = omega (arith, l.c_most);
          node = λ i h.
              let q = promise.node i (subst (λ y. i < y.n) (sym sizes_are) h) in
              rw (node_is i) (record { p = below q.p; q = below q.q; r = below q.r });
          expression = λ i h. rw (expression_is i, k_is) (named _ i _ _ (promise.expression i (subst (λ y. i < y.e) (sym sizes_are) h)));
          clause = λ i h.
              let q = promise.clause i (subst (λ y. i < y.c) (sym sizes_are) h) in
              rw (clause_is i) (record { node = below q.node; time = omega (arith, q.time); guard = subst (λ y. u16_at (records_of s).clauses (8 * i + 6) < y.e) sizes_are q.guard });
        }

-- a plan of an accepted job's sizes and lists is ready
pub ready_of : {job : List ℕ} {p : Plan} {z : Size} {nodes : List Node} {expressions : List Expression} {clauses : List Clause}
    → p.size ≡ z → p.nodes ≡ nodes → p.expressions ≡ expressions → p.clauses ≡ clauses
    → read_answer job ≡ accepted_as z → job_from z nodes expressions clauses ≡ job_of (records_of job) → Ready job p
ready_of a b c d read means = record { read = read ∙ sym (ap accepted_as a); means = rw (a, b, c, d) means }
