-- Refusals of the code and refusal numbers are each other's inverse (`reason-number`, `refusal-told`). Assumes nothing.
use mathlib.Core.Path.{◌≡◌, refl}
use Rattle.types.specs.Answers.{number_of, reason_of, refusal_of}
use Rattle.types.specs.declared.Reason.{Reason}
use Rattle.types.specs.declared.Reason.TheVariants.{
  FileTooShort,
  FileTooLong,
  UnknownEdition,
  WrongLength,
  CountOutsideLimits,
  WrongOffset,
  SectionPastEnd,
  ListTooLong,
  BytesLeft,
  MeshSizeZero,
  TooManyDevices,
  TensorSizeZero,
  TooManyWords,
  StartAxisTooLarge,
  StartAxisRepeated,
  StartNotIncreasing,
  StartNotDivisible,
  ReplicatedEmpty,
  WrongOrder,
  UnknownKind,
  NoAxis,
  AxisTooLarge,
  NotReplicated,
  NotTail,
  ShardNotDivisible,
  NotIncreasing,
  NotReducible,
  WrongDims,
  WorkTooShort,
  SpareTooShort,
  NoSuchDevice,
  OutputTooShort,
  NoSuchState,
  BufferTooShort,
  GoalOutOfReach,
  ShardingChanged,
  TooDeep,
  TooManyRun,
  RepeatOfNothing,
}
use Rattle.types.specs.declared.Refusal.{Refusal}

pub reason-number : (x : Reason) → reason_of (number_of x) ≡ x
unfolding reason_of
reason-number FileTooShort = refl
reason-number FileTooLong = refl
reason-number UnknownEdition = refl
reason-number WrongLength = refl
reason-number CountOutsideLimits = refl
reason-number WrongOffset = refl
reason-number SectionPastEnd = refl
reason-number ListTooLong = refl
reason-number BytesLeft = refl
reason-number MeshSizeZero = refl
reason-number TooManyDevices = refl
reason-number TensorSizeZero = refl
reason-number TooManyWords = refl
reason-number StartAxisTooLarge = refl
reason-number StartAxisRepeated = refl
reason-number StartNotIncreasing = refl
reason-number StartNotDivisible = refl
reason-number ReplicatedEmpty = refl
reason-number WrongOrder = refl
reason-number UnknownKind = refl
reason-number NoAxis = refl
reason-number AxisTooLarge = refl
reason-number NotReplicated = refl
reason-number NotTail = refl
reason-number ShardNotDivisible = refl
reason-number NotIncreasing = refl
reason-number NotReducible = refl
reason-number WrongDims = refl
reason-number WorkTooShort = refl
reason-number SpareTooShort = refl
reason-number NoSuchDevice = refl
reason-number OutputTooShort = refl
reason-number NoSuchState = refl
reason-number BufferTooShort = refl
reason-number GoalOutOfReach = refl
reason-number ShardingChanged = refl
reason-number TooDeep = refl
reason-number TooManyRun = refl
reason-number RepeatOfNothing = refl

pub refusal-told : (r : Refusal) → refusal_of (number_of r.reason) r.step ≡ r
refusal-told r = λ i. record { reason = reason-number r.reason i; step = r.step }
