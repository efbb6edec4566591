use Rattle.std.proofs.Common.{◌≡◌, ◌+◌, ◌-◌, ◌*◌, [], ◌∷◌, length, get_or, drop, sym, ap, ◌∙◌, arith, get_or-take}
use Rattle.types.specs.Types.{axes_of, dims_of}
use Rattle.laws.proofs.Lists.{drop-before}
use Rattle.moves.specs.Moves.{lists, Dimension}
use Rattle.moves.proofs.Dims.{dims-ask, dims-step, dim-facts}
use Rattle.moves.proofs.Move.shape_digits.Goals as goal
use Rattle.moves.proofs.Move.shape_digits.Goals.{After-at-sliced}

-- the dimension's size and lists
size : (c : After-at-sliced) → (let shape = c.args.self.shape.now in
    drop (c.loop-j.j - 1) shape ≡ get_or shape (c.loop-j.j - 1) 0 ∷ drop c.loop-j.j shape)
size c = drop-before 0 c.args.self.shape.now c.loop-j.j (omega arith) (omega arith)

gathered : (c : After-at-sliced) → (let Gs = lists c.args.self.shape.now c.args.self.gathers in
    drop (c.loop-j.j - 1) Gs ≡ axes_of c.at-gathered.result ∷ drop c.loop-j.j Gs)
gathered c =
    let j = c.loop-j.j in
    let n = length c.args.self.shape.now in
    let Gs = lists c.args.self.shape.now c.args.self.gathers in
    drop-before [] Gs j (omega arith) (omega (arith, c.requires.step.gathers))
    ∙ ap (λ L. L ∷ drop j Gs) (get_or-take n (dims_of c.args.self.gathers) (j - 1) [] (omega arith) ∙ sym c.at-gathered.ensures)

sliced : (c : After-at-sliced) → (let Ss = lists c.args.self.shape.now c.args.self.slices in
    drop (c.loop-j.j - 1) Ss ≡ axes_of c.at-sliced.result ∷ drop c.loop-j.j Ss)
sliced c =
    let j = c.loop-j.j in
    let n = length c.args.self.shape.now in
    let Ss = lists c.args.self.shape.now c.args.self.slices in
    drop-before [] Ss j (omega arith) (omega (arith, c.requires.step.slices))
    ∙ ap (λ L. L ∷ drop j Ss) (get_or-take n (dims_of c.args.self.slices) (j - 1) [] (omega arith) ∙ sym c.at-sliced.ensures)

asked : (c : After-at-sliced) → (let l = c.loop-j in
    Dimension l.digits l.strides l.added c.args.self.mesh.now (axes_of c.at-gathered.result) (axes_of c.at-sliced.result)
    (get_or c.args.self.shape.now (l.j - 1) 0) l.w l.first l.count)
asked c =
    let l = c.loop-j in
    dims-ask _ (axes_of c.at-gathered.result) (axes_of c.at-sliced.result) l.invariant (size c) (gathered c) (sliced c)
    c.requires l.auto.digits (l.auto.strides ∙ c.requires.strides_places) (l.auto.added ∙ c.requires.added_places) (omega arith) (omega arith)

pub dim_digits-count-requires : goal.dim_digits-count-requires
dim_digits-count-requires c = asked ((goal.at.dim_digits-count-requires c).After-at-sliced)

pub overflow_mul-first : goal.overflow_mul-first
overflow_mul-first c =
    let f = (asked ((goal.at.overflow_mul-first c).After-at-sliced)).front in
    omega (arith, f.room, f.inside, c.len.ensures)

pub overflow_add-first : goal.overflow_add-first
overflow_add-first c =
    let f = (asked ((goal.at.overflow_add-first c).After-at-sliced)).front in
    omega (arith, f.room, f.inside, c.len.ensures)

pub overflow_sub-first : goal.overflow_sub-first
overflow_sub-first c = omega (arith, (asked ((goal.at.overflow_sub-first c).After-at-sliced)).front.room, c.len.ensures)

pub overflow_mul-w : goal.overflow_mul-w
overflow_mul-w c = omega (arith, (asked ((goal.at.overflow_mul-w c).After-at-sliced)).old_few)

pub loop-j-preserved : goal.loop-j-preserved
loop-j-preserved c =
    let l = c.loop-j in
    let a = (goal.at.loop-j-preserved c).After-at-sliced in
    let r = c.dim_digits-count in
    let G = axes_of c.at-gathered.result in
    let S = axes_of c.at-sliced.result in
    let d = asked a in
    let n = get_or c.args.self.shape.now (l.j - 1) 0 in
    let first : l.first - (3 + 3 * length G) ≡ l.first - 3 - 3 * length G = omega arith in
    let words : l.w * n ≡ n * l.w = omega arith in
    rw (c.len.ensures, r.ensures.value, first, words)
    (dims-step _ G S l.invariant (size a) (gathered a) (sliced a) r.new.digits r.new.strides r.new.added c.requires.step.gathers c.requires.step.slices
    c.requires.step.on.devices_pos r.auto.digits (omega (arith, d.front.room)) (dim-facts d).apart_few r.ensures.digits_after r.ensures.strides_after r.ensures.added_after)
