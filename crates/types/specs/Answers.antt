-- What refusals and answers of the code (src/lib.rt) stand for in the rules, and the answer of the code that the rules define: every place of it.
-- Assumes nothing.
use Rattle.std.specs.Prelude.{ℕ, List, [], ◌∷◌, eqb, Result, Ok, Err}
use Rattle.rules.specs.Lists.{pick}
use Rattle.types.specs.declared.Reason.{Reason}
use Rattle.types.specs.declared.Reason.TheVariants.{
  FileTooShort,
  FileTooLong,
  UnknownEdition,
  WrongLength,
  CountOutsideLimits,
  WrongOffset,
  SectionPastEnd,
  ListTooLong,
  BytesLeft,
  MeshSizeZero,
  TooManyDevices,
  TensorSizeZero,
  TooManyWords,
  StartAxisTooLarge,
  StartAxisRepeated,
  StartNotIncreasing,
  StartNotDivisible,
  ReplicatedEmpty,
  WrongOrder,
  UnknownKind,
  NoAxis,
  AxisTooLarge,
  NotReplicated,
  NotTail,
  ShardNotDivisible,
  NotIncreasing,
  NotReducible,
  WrongDims,
  WorkTooShort,
  SpareTooShort,
  NoSuchDevice,
  OutputTooShort,
  NoSuchState,
  BufferTooShort,
  GoalOutOfReach,
  ShardingChanged,
  TooDeep,
  TooManyRun,
  RepeatOfNothing,
}
use Rattle.types.specs.declared.Refusal.{Refusal}
use Rattle.rules.specs.Refusals.{Judged, accept, refuse}
use Rattle.types.specs.Types.{four_places, sharding_from, no_lists}
use Rattle.types.specs.declared.Checked.{Checked}
use Rattle.types.specs.declared.Placed.{Placed}
use Rattle.rules.specs.Calls.{CheckAnswer, PlaceAnswer}

-- ---- refusals

abbrev pub number_of : Reason → ℕ
number_of FileTooShort = 1
number_of FileTooLong = 2
number_of UnknownEdition = 3
number_of WrongLength = 4
number_of CountOutsideLimits = 5
number_of WrongOffset = 6
number_of SectionPastEnd = 7
number_of ListTooLong = 8
number_of BytesLeft = 9
number_of MeshSizeZero = 10
number_of TooManyDevices = 11
number_of TensorSizeZero = 12
number_of TooManyWords = 13
number_of StartAxisTooLarge = 14
number_of StartAxisRepeated = 15
number_of StartNotIncreasing = 16
number_of StartNotDivisible = 17
number_of ReplicatedEmpty = 18
number_of WrongOrder = 19
number_of UnknownKind = 20
number_of NoAxis = 21
number_of AxisTooLarge = 22
number_of NotReplicated = 23
number_of NotTail = 24
number_of ShardNotDivisible = 25
number_of NotIncreasing = 26
number_of NotReducible = 27
number_of WrongDims = 28
number_of WorkTooShort = 30
number_of SpareTooShort = 31
number_of NoSuchDevice = 32
number_of OutputTooShort = 33
number_of NoSuchState = 34
number_of BufferTooShort = 35
number_of GoalOutOfReach = 40
number_of ShardingChanged = 41
number_of TooDeep = 42
number_of TooManyRun = 43
number_of RepeatOfNothing = 44

-- the reason that has a number; one that no reason has stands for the first
abbrev pub reasons : List Reason
reasons =
    FileTooShort ∷ FileTooLong ∷ UnknownEdition ∷ WrongLength ∷ CountOutsideLimits ∷ WrongOffset ∷ SectionPastEnd ∷ ListTooLong ∷ BytesLeft
    ∷ MeshSizeZero ∷ TooManyDevices ∷ TensorSizeZero ∷ TooManyWords ∷ StartAxisTooLarge ∷ StartAxisRepeated ∷ StartNotIncreasing ∷ StartNotDivisible
    ∷ ReplicatedEmpty ∷ WrongOrder ∷ UnknownKind ∷ NoAxis ∷ AxisTooLarge ∷ NotReplicated ∷ NotTail ∷ ShardNotDivisible ∷ NotIncreasing ∷ NotReducible ∷ WrongDims ∷ WorkTooShort
    ∷ SpareTooShort ∷ NoSuchDevice ∷ OutputTooShort ∷ NoSuchState ∷ BufferTooShort ∷ GoalOutOfReach ∷ ShardingChanged ∷ TooDeep ∷ TooManyRun ∷ RepeatOfNothing ∷ []

abbrev pub numbered : ℕ → List Reason → Reason
numbered n [] = FileTooShort
numbered n (x ∷ xs) = pick (eqb (number_of x) n) x (numbered n xs)

unfoldable pub reason_of : ℕ → Reason
reason_of n = numbered n reasons

-- what a refusal of the code stands for, and the refusal of the code with a number and a step
abbrev pub refused_with : {A : Type 0} → Refusal → Judged A
refused_with r = refuse (number_of r.reason) r.step

abbrev pub refusal_of : (n k : ℕ) → Refusal
refusal_of n k = record { reason = reason_of n; step = k }

-- what a result of the code stands for
abbrev pub judged : {A : Type 0} → Result A Refusal → Judged A
judged (Ok a) = accept a
judged (Err r) = refused_with r

-- the same, of a value of the code that stands for one of the rules
abbrev pub judged_as : {A B : Type 0} → (A → B) → Result A Refusal → Judged B
judged_as f (Ok a) = accept (f a)
judged_as f (Err r) = refused_with r

-- ---- the answers of the calls

-- The answer of the code, every place of it: past the rank no axes and sizes of 0, and so in every place beside a refusal.
abbrev pub checked_of : Judged CheckAnswer → Checked
checked_of (accept a) = record {
  outcome = Ok (record { room = a.room; devices = a.devices; steps = a.steps; rank = a.rank; moved = a.moved });
  sharding = sharding_from a.sharding;
  shard = four_places 0 a.shard;
}
checked_of (refuse n k) = record {
  outcome = Err (refusal_of n k);
  sharding = sharding_from no_lists;
  shard = four_places 0 [];
}

-- the answer of the code; first indexes are 0 where sizes are
abbrev pub placed_of : Judged PlaceAnswer → Placed
placed_of (accept a) = record {
  outcome = Ok a.rank;
  sharding = sharding_from a.sharding;
  shard = four_places 0 a.shard;
  first = four_places 0 a.first;
}
placed_of (refuse n step) = record {
  outcome = Err (refusal_of n step);
  sharding = sharding_from no_lists;
  shard = four_places 0 [];
  first = four_places 0 [];
}
