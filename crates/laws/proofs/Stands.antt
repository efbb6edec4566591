-- Shards that stand at the front of a buffer: those that the buffer holds do (`held-stands`), those that were put there do (`with-stands`), and a step
-- makes the same of them as of the words that the buffer holds (`step-stands`). For every element type. Assumes nothing.
use Prim.Native.Nat.{ℕ, ◌*◌, ◌≤◌}
use mathlib.Core.Path.{◌≡◌, sym, ap, ◌∙◌}
use mathlib.Core.List.{List, ◌++◌}
use lib.ListN.{length, drop, take-append-drop}
use lib.Seq.{take_at}
use Rattle.rules.specs.Lists.{product, Below}
use Rattle.rules.specs.Mesh.{devices}
use Rattle.rules.specs.Spread.{tabulate, held}
use Rattle.rules.specs.Collectives.{Step, shape_after, sources, made, Shards, stepped, Stands, with_shards}
use Rattle.laws.proofs.Buffers.{length-tabulate, held-tabulate, tabulate-held, tabulate-same}
use Rattle.laws.proofs.Sources.{Ready, step_local}

module _ {W : Type 0} (mesh : List ℕ) where
  pub held-stands : (z : W) (shape : List ℕ) (b : List W) → devices mesh * product shape ≤ length b → Stands mesh (record { shape = shape; words = held z mesh shape b }) b
  held-stands z shape b h = sym (tabulate-held mesh shape z b h)

  pub with-stands : (v : Shards W) (b : List W) → Stands mesh v (with_shards mesh v b)
  with-stands v b = take_at _ _ _ (length-tabulate mesh v.shape v.words)

  -- a word of shards that stand in a buffer
  stands_word : (z : W) (v : Shards W) (b : List W) → Stands mesh v b → (x i : List ℕ) → Below x mesh → Below i v.shape
      → held z mesh v.shape b x i ≡ v.words x i
  stands_word z v b h x i bx bi =
      let m : ℕ = devices mesh * product v.shape in
      ap (λ (l : List W). held z mesh v.shape l x i) (sym (take-append-drop m b) ∙ ap (λ (l : List W). l ++ drop m b) h)
      ∙ held-tabulate mesh v.shape z v.words (drop m b) bx bi

  pub step-stands : (addAll : List W → W) (z : W) (t : Step) (v : Shards W) (b : List W) → Ready mesh t v.shape → Stands mesh v b
      → tabulate mesh (shape_after mesh t v.shape) (made addAll (sources mesh t v.shape) (held z mesh v.shape b))
      ≡ tabulate mesh (stepped addAll mesh t v).shape (stepped addAll mesh t v).words
  unfolding stepped
  step-stands addAll z t v b r h = tabulate-same mesh (shape_after mesh t v.shape) _ _ (λ x i bx bi.
      step_local mesh addAll t v.shape (held z mesh v.shape b) v.words x i r bx bi (λ y j by bj _. stands_word z v b h y j by bj))
