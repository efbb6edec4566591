use Rattle.std.proofs.Common.{ℕ, ◌-◌, ◌*◌, List, length, drop, refl, ap, ◌∙◌, arith}
use Rattle.rules.specs.Lists.{product}
use Rattle.strided.proofs.Joins.{digit-tail}
use Rattle.types.specs.Types.{axes_of}
use Rattle.digits.specs.Digits.{mesh_digits, Devices}
use Rattle.moves.specs.Moves.{moved_shape, lists, first_strides, DimensionsAt}
use Rattle.moves.proofs.Whole.{dims-asked, adding-asked, mesh-asked, digits_are}
use Rattle.moves.proofs.Move.make_digits.Goals as goal
use Rattle.moves.proofs.Move.make_digits.Goals.{After-shape_digits-end, After-add_strides}

-- the digits of the dimensions, over the strides of the shards that are read
made : (c : After-shape_digits-end) → (let s = c.args.self in let mesh = s.mesh.now in let shape = s.shape.now in
    let Gs = lists shape s.gathers in let Ss = lists shape s.slices in let r = c.shape_digits-end in
    DimensionsAt mesh shape Gs Ss (first_strides mesh shape (axes_of c.args.along)) c.args.added.now r.new.digits r.new.strides r.new.added r.result
    (product (moved_shape mesh shape Gs Ss)) (product shape) 0)
made c = rw (c.read_strides.ensures, c.product_from-m.ensures) at c.shape_digits-end.ensures

-- those of the devices have room before them
room : (c : After-add_strides) → Devices c.shape_digits-end.new.digits c.add_strides.new.strides c.args.self.mesh.now c.shape_digits-end.result c.args.words
room c =
    let d = rw (c.read_strides.ensures, c.product_from-m.ensures) at c.shape_digits-end.ensures in
    mesh-asked c.requires d c.add_strides.new.strides c.add_strides.auto.strides c.shape_digits-end.auto.digits

pub shape_digits-end-requires : goal.shape_digits-end-requires
shape_digits-end-requires c =
    rw (c.read_strides.ensures, c.product_from-m.ensures)
    (dims-asked c.requires (first_strides c.args.self.mesh.now c.args.self.shape.now (axes_of c.args.along)) refl)

pub add_strides-requires : goal.add_strides-requires
add_strides-requires c =
    adding-asked c.requires (made ((goal.at.add_strides-requires c).After-shape_digits-end)) c.shape_digits-end.auto.added

pub mesh_digits-requires : goal.mesh_digits-requires
mesh_digits-requires c = room ((goal.at.mesh_digits-requires c).After-add_strides)

pub overflow_sub-result : goal.overflow_sub-result
overflow_sub-result c = omega (arith, (room ((goal.at.overflow_sub-result c).After-add_strides)).front.room)

pub returns : goal.returns
returns c =
    let x = c.shape_digits-end in
    let u = room ((goal.at.returns c).After-add_strides) in
    let first = x.result - 3 * length c.args.self.mesh.now in
    digits_are c.requires (made ((goal.at.returns c).After-shape_digits-end)) c.mesh_digits.new.digits first
    (digit-tail _ first c.mesh_digits.ensures (omega (arith, u.front.inside))
    ∙ ap (λ (strides : List ℕ). mesh_digits c.args.self.mesh.now strides (drop x.result x.new.digits)) c.add_strides.ensures)
