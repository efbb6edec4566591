use Rattle.std.proofs.Common.{◌≡◌, ◌+◌, ◌-◌, ◌*◌, ◌<◌, ◌≤◌, length, get_or, drop, arith, length-drop}
use Rattle.rules.specs.Mesh.{span}
use Rattle.rules.specs.Limits.{most_words}
use Rattle.types.specs.Types.{axes_of}
use Rattle.laws.proofs.Lists.{drop-before, at_in}
use Rattle.mesh.proofs.Sizes.{span_less, group-pos}
use Rattle.moves.specs.Moves.{most_added}
use Rattle.moves.proofs.Dims.{slice-step, slice-few}
use Rattle.moves.proofs.add_slice.Goals as goal
use Rattle.moves.proofs.add_slice.Goals.{After-at-axis, After-size_at-words}

-- the axis is one of the mesh, and the sum is small
in-mesh : (c : After-at-axis) → c.at-axis.result.0 < length c.args.mesh.now
in-mesh c =
    let i = c.loop-i.i - 1 in
    rw c.at-axis.ensures (c.requires.of_mesh (get_or (axes_of c.args.axes) i 0) (at_in (axes_of c.args.axes) i (omega arith)))

small : (c : After-at-axis) → get_or c.loop-i.added c.at-axis.result.0 0 + c.loop-i.words ≤ most_added
small c =
    let l = c.loop-i in
    let mesh = c.args.mesh.now in
    let L = axes_of c.args.axes in
    let pos = c.requires.has.on.devices_pos in
    let less = span_less mesh L l.i c.args.v (group-pos mesh L pos) in
    let few : span mesh (drop l.i L) * c.args.v ≤ most_words = omega (arith, less, c.requires.few) in
    rw l.invariant.0 (omega (
      arith,
      slice-few mesh (drop l.i L) c.args.added.now c.args.v c.at-axis.result.0 most_words pos few,
      c.requires.added_few c.at-axis.result.0,
      length-drop l.i L,
    ))

-- the words with one axis more
next : (c : After-size_at-words) → (let words = c.loop-i.words * c.size_at-words.result in
    (words ≡ span c.args.mesh.now (drop (c.loop-i.i - 1) (axes_of c.args.axes)) * c.args.v) × (words ≤ most_words))
next c =
    let l = c.loop-i in
    let mesh = c.args.mesh.now in
    let L = axes_of c.args.axes in
    let e : l.words * c.size_at-words.result ≡ span mesh (drop (l.i - 1) L) * c.args.v =
    rw (drop-before 0 L l.i (omega arith) (omega arith), ← c.at-axis.ensures, l.invariant.1, c.size_at-words.ensures) (omega arith) in
    (e, omega (arith, e, span_less mesh L (l.i - 1) c.args.v (group-pos mesh L c.requires.has.on.devices_pos), c.requires.few))

pub bounds-added-axis : goal.bounds-added-axis
bounds-added-axis c = omega (arith, in-mesh ((goal.at.bounds-added-axis c).After-at-axis), c.requires.has.places)

pub overflow_add-added : goal.overflow_add-added
overflow_add-added c = omega (arith, small ((goal.at.overflow_add-added c).After-at-axis))

pub bounds-added-axis-in-loop-i : goal.bounds-added-axis-in-loop-i
bounds-added-axis-in-loop-i c = omega (arith, in-mesh ((goal.at.bounds-added-axis-in-loop-i c).After-at-axis), c.requires.has.places)

pub overflow_mul-words : goal.overflow_mul-words
overflow_mul-words c = let n = next ((goal.at.overflow_mul-words c).After-size_at-words) in omega arith

pub loop-i-preserved : goal.loop-i-preserved
loop-i-preserved c =
    let l = c.loop-i in (
      rw c.at-axis.ensures
          (slice-step c.args.mesh.now (axes_of c.args.axes) c.args.added.now l.added c.args.v l.i l.words (omega arith) (omega arith) l.invariant.1 l.invariant.0),
      (next ((goal.at.loop-i-preserved c).After-size_at-words)).0,
    )
