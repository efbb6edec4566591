use native.Mathlib.Omega.{arith}
use Prim.Native.Nat.{ℕ}
use mathlib.Core.Path.{◌≡◌, sym, ap, ap₂, ◌∙◌}
use mathlib.Core.List.{List}
use lib.ListN.{length, get_or, set, length-set}
use Rattle.rules.specs.Lists.{tab}
use Rattle.laws.proofs.Fronts.{front-step, front-behind, front-full, whole-tab}
use Rattle.run.proofs.Zeros.{tab-same}
use Rattle.run.proofs.take_home.Goals as goal

pub loop-i-preserved : goal.loop-i-preserved
loop-i-preserved c = let l = c in
    let s = c in
    let i = l.loop-i.i in
    let word : ℕ → ℕ = λ k. get_or s.args.spare.now k 0 in
    let v : get_or l.loop-i.spare i 0 ≡ word i = ap (λ (b : List ℕ). get_or b i 0) l.loop-i.invariant.2 ∙ front-behind 0 (λ k. 0) s.args.spare.now i in (
      omega arith,
      ap₂ (λ (b : List ℕ) (w : ℕ). set b i w) l.loop-i.invariant.1 v ∙ front-step word s.args.work.now i (omega arith),
      rw l.loop-i.invariant.2 (front-step (λ k. 0) s.args.spare.now i (omega arith)),
      rw length-set l.loop-i.invariant.3,
      rw length-set l.loop-i.invariant.4,
    )

pub returns : goal.returns
returns c = let l = c in
    let s = c in
    let spare = s.args.spare.now in
    let word : ℕ → ℕ = λ k. get_or spare k 0 in record { work_after = l.loop-i.invariant.1 ∙ front-full word s.args.work.now l.loop-i.i (omega arith) ∙ ap (λ n. tab n word) s.requires ∙ sym (whole-tab 0 spare); spare_after = l.loop-i.invariant.2 ∙ front-full (λ k. 0) spare l.loop-i.i (omega arith) ∙ tab-same (length spare) 0 }
