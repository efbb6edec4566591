use Rattle.std.proofs.Common.{◌≡◌, length, ap, ◌∙◌, arith}
use lib.Seq.{drop-length}
use Rattle.types.specs.Types.{axes_of}
use Rattle.digits.specs.Digits.{cleared}
use Rattle.moves.proofs.Dims.{numbers-length, number_in, clear-step}
use Rattle.moves.proofs.read_strides.Goals as goal

pub bounds-strides-axis : goal.bounds-strides-axis
bounds-strides-axis c =
    let xs = c.as_slice-axis-items in
    omega (arith, c.requires.of_mesh _ (number_in xs.result.now xs.ensures c.loop-axis.axis-index c.loop-axis-test.true), c.requires.has.places)

pub loop-axis-preserved : goal.loop-axis-preserved
loop-axis-preserved c =
    let xs = c.as_slice-axis-items in
    clear-step xs.result.now xs.ensures c.loop-axis.axis-index c.loop-axis.strides c.loop-axis-test.true ∙ c.loop-axis.invariant

pub returns : goal.returns
returns c =
    let xs = c.as_slice-axis-items in
    let L = axes_of c.args.axes in
    let e : c.loop-axis.axis-index ≡ length L = omega (arith, numbers-length xs.result.now xs.ensures) in
    rw (e, drop-length L) at c.loop-axis.invariant ∙ ap (cleared L) c.fill_strides.ensures
