-- The sizes in turn: what the loop of judge_sizes keeps (`Sizing`), with the law of each way out. Assumes nothing.
use Prim.Native.Nat.{ℕ, ◌+◌, ◌*◌, ◌<◌, ◌≤◌}
use mathlib.Core.Path.{◌≡◌, refl, ap, ◌∙◌}
use mathlib.Core.List.{List, ◌∷◌}
use native.Mathlib.Omega.{arith}
use borrow.Author.Tests.{lt-ltb, le-ltb, le-leb, lt-leb}
use lib.ListN.{length, get_or, drop, drop_of_length-le}
use Rattle.rules.specs.Limits.{most_devices}
use Rattle.rules.specs.Refusals.{accept, refuse}
use Rattle.rules.specs.PlanFile.{judge_sizes}
use Rattle.axes.proofs.Going.{drop_at}

pub record Sizing (mesh : List ℕ) (product i : ℕ) : Type 0 where
  pub small : product ≤ most_devices
  pub same : judge_sizes most_devices 10 11 1 mesh ≡ judge_sizes most_devices 10 11 product (drop i mesh)

module _ {mesh : List ℕ} {product i : ℕ} (g : Sizing mesh product i) (h : i < length mesh) (n : ℕ) (e : n ≡ get_or mesh i 0) where
  next-size : judge_sizes most_devices 10 11 1 mesh ≡ judge_sizes most_devices 10 11 product (n ∷ drop (i + 1) mesh)
  next-size = g.same ∙ ap (judge_sizes most_devices 10 11 product) (drop_at mesh i n 0 h e)

  pub size-zero : n ≡ 0 → judge_sizes most_devices 10 11 1 mesh ≡ refuse 10 0
  unfolding judge_sizes
  size-zero z = next-size ∙ simp (le-ltb 0 n (omega arith))

  pub size-over : ¬ (n ≡ 0) → most_devices < product * n → judge_sizes most_devices 10 11 1 mesh ≡ refuse 11 0
  unfolding judge_sizes
  size-over z o = next-size ∙ simp (lt-ltb 0 n (omega arith), lt-leb (product * n) most_devices o)

  pub size-passes : ¬ (n ≡ 0) → product * n ≤ most_devices → Sizing mesh (product * n) (i + 1)
  unfolding judge_sizes
  size-passes z o = record { small = o; same = next-size ∙ simp (lt-ltb 0 n (omega arith), le-leb (product * n) most_devices o) }

pub sizes-pass : {mesh : List ℕ} {product i : ℕ} → Sizing mesh product i → length mesh ≤ i → judge_sizes most_devices 10 11 1 mesh ≡ accept tt
unfolding judge_sizes
sizes-pass {mesh} {i = i} g h = g.same ∙ rw (drop_of_length-le mesh {i = i} h) refl
