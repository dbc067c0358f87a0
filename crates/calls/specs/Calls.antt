-- The calls that the apps can make, with what they lend, and the answers. Assumes nothing.
use Rattle.std.specs.Prelude.{ℕ, List, [], Float}
use Rattle.slots.specs.Sizes.{Sizes, Lengths}
use Rattle.candidates.specs.Candidates.{Candidate}
use Rattle.repair.specs.Delete.{Stats}
use Rattle.guard.specs.Guard.{Config, Report, Status}

-- what making is given (document 01: making a book): the sizes, the number of given slots, the bytes of their vectors, their rows, the entry, their figure
-- numbers, and a weight for each byte of a vector
pub record Making : Type 0 where
  pub sizes : Sizes
  pub count : ℕ
  pub bytes : List ℕ
  pub rows : List ℕ
  pub entry : ℕ
  pub numbers : List ℕ
  pub weights : List ℕ

-- one number
pub data Reading : Type 0 where
  read_dim : Reading
  read_capacity : Reading
  read_degree : Reading
  read_alpha : Reading
  read_entry : Reading
  read_live : Reading
  read_mark : (slot : ℕ) → Reading
  read_version : (slot : ℕ) → Reading
  -- the figure number
  read_number : (slot : ℕ) → Reading
  -- by the place among the slot's live targets
  read_target : (slot place : ℕ) → Reading

pub record Search : Type 0 where
  pub query : List ℕ
  pub k : ℕ
  pub beam : ℕ

pub record Insert : Type 0 where
  pub bytes : List ℕ
  -- a figure number for each vector
  pub numbers : List ℕ
  pub beam : ℕ

-- what a delete names
pub data Naming : Type 0 where
  of_slots : Naming
  of_numbers : Naming

pub record Delete : Type 0 where
  pub names : List ℕ
  pub naming : Naming
  pub repair_beam : ℕ
  pub repair_degree : ℕ

pub record Assess : Type 0 where
  pub ids : List ℕ

pub data Operation : Type 0 where
  create : Making → Operation
  read : Reading → Operation
  read_vector : (slot : ℕ) → Operation
  search : Search → Operation
  insert : Insert → Operation
  delete : Delete → Operation
  enable : Config → Operation
  status : Operation
  assess : Assess → Operation
  guarded_delete : Delete → Operation

-- how many the lists hold that are lent for answers: slots, distances and figure numbers, stats, and the report's two lists
pub record Room : Type 0 where
  pub slots : ℕ
  pub dists : ℕ
  pub numbers : ℕ
  pub stats : ℕ
  pub checked : ℕ
  pub lost : ℕ

-- the lengths of all that a call is lent: the nine slices of the index, the lists for its answer, and the scratch
pub record Lent : Type 0 where
  pub slices : Lengths
  pub room : Room
  pub scratch : ℕ

pub record Call : Type 0 where
  pub lent : Lent
  pub operation : Operation

pub data Answer : Type 0 where
  refused : (number : ℕ) → Answer
  created : Answer
  number : ℕ → Answer
  alpha : Float → Answer
  version : ℕ → Answer
  vector : List ℕ → Answer
  found : List Candidate → (numbers : List ℕ) → Answer
  inserted : (slots : List ℕ) → Answer
  deleted : List Stats → Answer
  standing : Status → Answer
  assessed : Report → Answer
  applied : List Stats → Report → Answer
  deferred : Report → Answer

-- a call that is turned back gives its number; where a vector is read, the empty part
unfoldable pub refused_as : ℕ → Operation → Answer
refused_as n (create m) = refused n
refused_as n (read r) = refused n
refused_as n (read_vector s) = vector []
refused_as n (search a) = refused n
refused_as n (insert a) = refused n
refused_as n (delete a) = refused n
refused_as n (enable config) = refused n
refused_as n status = refused n
refused_as n (assess a) = refused n
refused_as n (guarded_delete a) = refused n
