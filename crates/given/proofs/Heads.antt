-- The head of a repeat, from its record (`none-run`, `none_inside`, `nests-too-deep`, `head-given`). Assumes nothing.
use Prim.Native.Nat.{ℕ, ◌+◌, ◌*◌}
use mathlib.Core.Path.{◌≡◌, ap, ◌∙◌}
use mathlib.Core.Logic.{◌≢◌}
use mathlib.Core.Bool.{Bool, true}
use mathlib.Core.List.{List}
use native.Mathlib.Omega.{arith}
use borrow.Author.Tests.{lt-ltb, le-ltb}
use lib.ListN.{get_or}
use lib.Dec.{ltb}
use Rattle.rules.specs.Refusals.{Judged, accept, refuse, ◌>>◌, need_at}
use Rattle.rules.specs.PlanFile.{positive_at, is_repeat}
use Rattle.blocks.specs.Blocks.{head_at}
use Rattle.blocks.proofs.Heads.{count-stops, number-stops, too-deep, head-is}
use Rattle.records.specs.Records.{Given, steps_bytes}
use Rattle.records.specs.Forms.{record_bytes, steps_given}
use Rattle.records.proofs.Records.{read-repeat}
use Rattle.given.specs.Given.{repeat_here, place_of}
use Rattle.given.proofs.Plain.{gives-repeat}

tested : (k n : ℕ) (j : Judged ℕ) → j ≡ ◌>>◌ (need_at k (ltb 0 n) 44) (accept n) → (n ≡ 0 → j ≡ refuse 44 k) × (n ≢ 0 → j ≡ accept n)
tested k n j e = (
  (λ z. e ∙ ap (λ (b : Bool). ◌>>◌ (need_at k b 44) (accept n)) (le-ltb 0 n (omega arith))),
  (λ z. e ∙ ap (λ (b : Bool). ◌>>◌ (need_at k b 44) (accept n)) (lt-ltb 0 n (omega (arith, z)))),
)

module _ (steps : List ℕ) (i : ℕ) (e : repeat_here steps i ≡ true) (rank depth : ℕ) where
  abbrev gs : List Given
  gs = steps_given rank steps

  abbrev count : ℕ
  count = get_or steps (record_bytes * i + 1) 0

  abbrev number : ℕ
  number = get_or steps (record_bytes * i + 2) 0

  -- a repeat is read there, and the records inside it begin behind it
  pub repeat-there : is_repeat (steps_bytes gs) (place_of gs i) ≡ true
  repeat-there = (read-repeat steps steps gs i count number _ (gives-repeat steps i rank e)).0

  pub repeat-next : place_of gs i + 1 + 2 ≡ place_of gs (i + 1)
  repeat-next = (read-repeat steps steps gs i count number _ (gives-repeat steps i rank e)).1

  first : (count ≡ 0 → positive_at (i + 1) (steps_bytes gs) (place_of gs i + 1) ≡ refuse 44 (i + 1))
      × (count ≢ 0 → positive_at (i + 1) (steps_bytes gs) (place_of gs i + 1) ≡ accept count)
  first = tested (i + 1) count _ ((read-repeat steps steps gs i count number _ (gives-repeat steps i rank e)).2 (i + 1))

  second : (number ≡ 0 → positive_at (i + 1) (steps_bytes gs) (place_of gs i + 1 + 1) ≡ refuse 44 (i + 1))
      × (number ≢ 0 → positive_at (i + 1) (steps_bytes gs) (place_of gs i + 1 + 1) ≡ accept number)
  second = tested (i + 1) number _ ((read-repeat steps steps gs i count number _ (gives-repeat steps i rank e)).3 (i + 1))

  pub none-run : count ≡ 0 → head_at depth (i + 1) (steps_bytes gs) (place_of gs i + 1) ≡ refuse 44 (i + 1)
  none-run z = count-stops depth (i + 1) (steps_bytes gs) (place_of gs i + 1) (first.0 z)

  module _ (c : count ≢ 0) where
    pub none_inside : number ≡ 0 → head_at depth (i + 1) (steps_bytes gs) (place_of gs i + 1) ≡ refuse 44 (i + 1)
    none_inside z = number-stops depth (i + 1) (steps_bytes gs) (place_of gs i + 1) (first.1 c) (second.0 z)

    pub nests-too-deep : number ≢ 0 → depth ≡ 0 → head_at depth (i + 1) (steps_bytes gs) (place_of gs i + 1) ≡ refuse 42 (i + 1)
    nests-too-deep n z = too-deep depth (i + 1) (steps_bytes gs) (place_of gs i + 1) (first.1 c) (second.1 n) z

    pub head-given : number ≢ 0 → depth ≢ 0 → head_at depth (i + 1) (steps_bytes gs) (place_of gs i + 1) ≡ accept (record { count = count; number = number })
    head-given n z = head-is depth (i + 1) (steps_bytes gs) (place_of gs i + 1) (first.1 c) (second.1 n) z
