-- What the theorems say of these answers, without tests: who is refused with what, what a row is, and one more stimulus record.
-- Assumes nothing.
use Rattle.std.specs.Prelude.{◌≡◌, List, ◌++◌, ℕ, ◌%◌, ◌^◌, ◌≤◌, ◌<◌, T, length, drop}
use Rattle.scans.specs.Lists.{list_of}
use Rattle.meaning.specs.Values.{collides, number}
use Rattle.meaning.specs.Jobs.{Job}
use Rattle.meaning.specs.Rows.{cell}
use Rattle.meaning.specs.Runs.{States, Weakest}
use Rattle.stored.specs.Bytes.{byte_at}
use Rattle.stored.specs.Layout.{Records, header_sizes}
use Rattle.stored.specs.Reading.{refused, accepted_as, read_answer}
use Rattle.verdicts.specs.Running.{job_in}

-- reading accepts the job; its answer then has the header's sizes
abbrev pub Accepted : List ℕ → Type 0
Accepted s = read_answer s ≡ accepted_as (header_sizes s)

-- the case is one of an accepted job
pub record InCase (s : List ℕ) (x : ℕ) : Type 0 where
  pub accepted : Accepted s
  pub below : x < 2 ^ (header_sizes s).k

-- what one case refuses: what reading refuses, and 11 CASE
pub data CaseRefused (s : List ℕ) (x : ℕ) : ℕ → ℕ → ℕ → Type 0 where
  READING : {n b l : ℕ} → read_answer s ≡ refused n b l → CaseRefused s x n b l
  CASE : Accepted s → ¬ (x < 2 ^ (header_sizes s).k) → CaseRefused s x 11 0 0

-- the case collides at or before time t
pub record CollidesBy (j : Job) (x t : ℕ) : Type 0 where
  pub time : ℕ
  pub node : ℕ
  pub in_time : time ≤ t
  pub in_row : node < j.netlist.size
  pub here : T (collides (cell j x time node))

-- what row refuses: what one case refuses; 12 TIME: time above 255; 13 ROOM: the lent output is too short for n bytes;
-- 14 EMPTY: the case collides at or before the asked time
pub data RowRefused (s : List ℕ) (x t room : ℕ) : ℕ → ℕ → ℕ → Type 0 where
  EARLIER : {n b l : ℕ} → CaseRefused s x n b l → RowRefused s x t room n b l
  TIME : InCase s x → 255 < t → RowRefused s x t room 12 0 0
  ROOM : InCase s x → t ≤ 255 → room < (header_sizes s).n → RowRefused s x t room 13 0 0
  EMPTY : InCase s x → t ≤ 255 → (header_sizes s).n ≤ room → CollidesBy (job_in s) x t → RowRefused s x t room 14 0 0

-- n bytes are written, node by node the numbers of what the weakest run up to time t has then; the bytes past them stay
pub record RowGiven (s : List ℕ) (x t bytes : ℕ) (out out' : List ℕ) : Type 0 where
  pub run : States
  pub weakest : Weakest (job_in s) x t run
  pub bytes_are : bytes ≡ (header_sizes s).n
  pub out_is : out' ≡ list_of (λ m. number (run t m)) bytes ++ drop bytes out

-- r' is r with one more stimulus record among its clauses, and perhaps more expressions after those of r
pub record AddedStimulus (r r' : Records) : Type 0 where
  pub same_k : r'.k ≡ r.k
  pub same_nodes : r'.nodes ≡ r.nodes
  pub more : List ℕ
  pub expressions_are : r'.expressions ≡ r.expressions ++ more
  pub front : List ℕ
  pub new : List ℕ
  pub back : List ℕ
  pub clauses_were : r.clauses ≡ front ++ back
  pub clauses_are : r'.clauses ≡ front ++ (new ++ back)
  pub front_whole : length front % 8 ≡ 0
  pub one_record : length new ≡ 8
  pub is_stimulus : byte_at new 0 ≡ 0
