use mathlib.Core.Path.{refl, ap, ◌∙◌}
use mathlib.Core.List.{[]}
use mathlib.Core.Bool.{not}
use lib.Dec.{eqb}
use lib.ListN.{take}
use Rattle.rules.specs.Collectives.{all_slice, all_gather, all_reduce}
use Rattle.types.specs.declared.Step.TheVariants as step
use Rattle.types.specs.Types.{axes_of, dims_of, sharding_of}
use Rattle.records.specs.Planning.{to_reduce, to_gather, to_slice}
use Rattle.records.specs.PlanAnswer.{steps_from}
use Rattle.planner.proofs.Tails.{goal-rests}
use Rattle.planner.proofs.Three.{first_of, second_of, none-room, first-room, second-room, some-long, three-steps}
use Rattle.planner.proofs.plan_steps.Goals as goal

pub with_step-one-requires : goal.with_step-one-requires
with_step-one-requires c = none-room c.no_steps-none.ensures

pub with_step-two-requires : goal.with_step-two-requires
with_step-two-requires c = let X = all_reduce (axes_of c.without-list.result) in
    first-room (not (eqb c.len.result 0)) X (c.with_step-one.ensures [] X c.no_steps-none.ensures (ap step.AllReduce c.cleared.ensures))

pub with_step-requires : goal.with_step-requires
with_step-requires c = let s = c.args in
    let X = all_reduce (axes_of c.without-list.result) in
    let Y = all_gather (take s.rank (dims_of c.rests-off.result)) in
    let a = not (eqb c.len.result 0) in
    let one = c.with_step-one.ensures [] X c.no_steps-none.ensures (ap step.AllReduce c.cleared.ensures) in
    second-room a c.names_axis.result X Y (c.with_step-two.ensures (first_of a X) Y one (ap step.AllGather c.dims_within.ensures))

pub returns : goal.returns
unfolding to_reduce to_gather to_slice
returns c = let s = c.args in
    let X = all_reduce (axes_of c.without-list.result) in
    let Y = all_gather (take s.rank (dims_of c.rests-off.result)) in
    let Z = all_slice (take s.rank (dims_of c.rests-on.result)) in
    let a = not (eqb c.len.result 0) in
    let b = c.names_axis.result in
    let one = c.with_step-one.ensures [] X c.no_steps-none.ensures (ap step.AllReduce c.cleared.ensures) in
    let two = c.with_step-two.ensures (first_of a X) Y one (ap step.AllGather c.dims_within.ensures) in
    let l = c.without-list.ensures in
    c.with_step.ensures (second_of a b X Y) Z two (ap step.AllSlice c.dims_within-2.ensures)
    ∙ ap steps_from (three-steps (sharding_of s.rank s.start) (sharding_of s.rank s.goal) l c.rests-off.ensures.0
    (c.rests-on.ensures.0 ∙ goal-rests (take s.rank (dims_of s.start.dims)) (take s.rank (dims_of s.goal.dims)))
    (some-long (axes_of c.without-list.result) c.len.result c.len.ensures refl) c.names_axis.ensures c.names_axis-2.ensures)
