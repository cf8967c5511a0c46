-- Demand 2's row over stored bytes: what is written are the numbers of the weakest run's state at the asked time; a refusal changes nothing lent.
-- Assumes nothing.
use Rattle.std.specs.Prelude.{Ok, Err}
use mathlib.Core.Path.{◌≡◌, refl, sym, ◌∙◌, ap}
use mathlib.Core.List.{List, ◌++◌}
use native.Mathlib.Omega.{arith}
use Prim.Native.Nat.{ℕ, zero, suc, ◌≤◌, ◌<◌}
use lib.ListN.{length, drop, get_or-append}
use Rattle.scans.specs.Lists.{list_of}
use Rattle.scans.proofs.Lists.{length_list_of, list_of_at}
use Rattle.meaning.specs.Values.{Value, v0, v1, v_x, number, cell_number}
use Rattle.meaning.specs.Jobs.{Job}
use Rattle.meaning.specs.Rows.{cell, row_numbers}
use Rattle.meaning.proofs.Values.{Free, free_value}
use Rattle.meaning.proofs.Weakest.{row_states, rows_weakest}
use Rattle.stored.specs.declared.Refusal.{Refusal}
use Rattle.stored.specs.Bytes.{byte_at}
use Rattle.stored.specs.Layout.{header_sizes}
use Rattle.stored.specs.Reading.{lent}
use Rattle.stored.specs.Packing.{written}
use Rattle.stored.specs.Decoding.{job_of}
use Rattle.stored.proofs.Accepted.{read_sizes}
use Rattle.verdicts.specs.Running.{job_in, row_answer, GivesRow}
use Rattle.verdicts.specs.Said.{RowGiven}
use Rattle.verdicts.proofs.RowRefusals.{RowIs, row_gives, row_bytes_lem}
use Rattle.verdicts.proofs.Demand.{job_formed}

-- where nothing has collided a row's numbers are those of its values
row_numbers_lem : (j : Job) (x t n : ℕ) → ((m : ℕ) → m < n → Free (cell j x t m)) → row_numbers j x t n ≡ list_of (λ m. number (row_states j x t m)) n
unfolding row_numbers list_of
row_numbers_lem j x t zero f = refl
row_numbers_lem j x t (suc n) f =
    let c : cell_number (cell j x t n) ≡ number (row_states j x t n) = ap cell_number (free_value (cell j x t n) (f n (omega arith))) in
    cc (row_numbers_lem j x t n (λ m l. f m (omega arith)))

-- the job has as many nodes as the header says
pub job_size : (s : List ℕ) → (job_in s).netlist.size ≡ (header_sizes s).n
unfolding job_of
job_size s = ap (λ z. z.n) (read_sizes s)

number_most : (v : Value) → number v ≤ 2
number_most v0 = omega arith
number_most v1 = omega arith
number_most v_x = omega arith

pub row_demand : (s : List ℕ) (x t bytes : ℕ) (out out' : List ℕ) → GivesRow s x t out out' (Ok bytes) → RowGiven s x t bytes out out'
unfolding lent
row_demand s x t bytes out out' g =
    let j = job_in s in
    let n = (header_sizes s).n in
    let row : ℕ → ℕ = λ m. number (row_states j x t m) in
    let b : bytes ≡ n = row_bytes_lem s x t (length out) bytes (sym g.answer) in
    let e : row_answer s x t (length out) ≡ written n = sym g.answer ∙ ap written b in
    let is : RowIs s x t (length out) = (row_gives s x t (length out)).0 e in
    let numbers : row_numbers j x t n ≡ list_of row n = row_numbers_lem j x t n (λ m l. is.free t m (omega arith) (omega (arith, job_size s))) in
    record {
      run = row_states j x;
      weakest = rows_weakest j (job_formed s is.in_case.accepted) x t is.free;
      bytes_are = b;
      out_is = g.out_is
          ∙ ap (λ a. lent a (row_numbers j x t n) out) e
          ∙ ap (λ l. l ++ drop (length l) out) numbers
          ∙ ap (λ k. list_of row n ++ drop k out) (length_list_of row n)
          ∙ ap (λ k. list_of row k ++ drop k out) (sym b);
    }

-- so each byte written is 0, 1, or 2 for X
pub row_values : (s : List ℕ) (x t bytes : ℕ) (out out' : List ℕ) (r : RowGiven s x t bytes out out') (m : ℕ) → m < bytes → (byte_at out' m ≡ number (r.run t m)) × (byte_at out' m ≤ 2)
row_values s x t bytes out out' r m h =
    let row : ℕ → ℕ = λ m. number (r.run t m) in
    let e : byte_at out' m ≡ number (r.run t m) =
    ap (λ l. byte_at l m) r.out_is ∙ get_or-append (list_of row bytes) (drop bytes out) 0 m (omega (arith, length_list_of row bytes)) ∙ list_of_at row bytes m h in
    (e, omega (arith, number_most (r.run t m)))

-- a refusal changes nothing lent
pub row_keeps : (s : List ℕ) (x t : ℕ) (out out' : List ℕ) (r : Refusal) → GivesRow s x t out out' (Err r) → out' ≡ out
unfolding lent
row_keeps s x t out out' r g = rw (← g.answer) at g.out_is
