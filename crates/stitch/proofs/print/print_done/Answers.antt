use mathlib.Core.Path.{refl, sym}
use native.Mathlib.Omega.{arith}
use lib.ListN.{replicate}
use lib.Seq.{length-take-le}
use Rattle.nodes.specs.Source.{source}
use Rattle.stitch.proofs.Facts.{few, offsets-asks, write-asks, done-written}
use Rattle.stitch.proofs.print.print_done.Goals as goal

pub offsets-total-requires : goal.offsets-total-requires
offsets-total-requires c =
    let t = c.args.table in
    let p = offsets-asks (source t.nodes.now t.addrs.now t.word) c.args.made.gates.now c.args.made.constraints.now c.args.made.map.now c.args.made.marks.now c.requires.done (replicate 514 0) refl in
    record { n_bound = p.0; table_in_bounds = p.1 }

pub slice_bounds-offsets-end-2 : goal.slice_bounds-offsets-end-2
slice_bounds-offsets-end-2 c =
    let t = c.args.table in
    let m = c.args.made in
    omega (arith, few (source t.nodes.now t.addrs.now t.word) m.gates.now m.constraints.now m.map.now m.marks.now c.requires.done, c.offsets-total.auto.out)

pub slice_bounds-write-end-2 : goal.slice_bounds-write-end-2
slice_bounds-write-end-2 c =
    let t = c.args.table in
    let m = c.args.made in
    sym (length-take-le _ _ (omega (arith, few (source t.nodes.now t.addrs.now t.word) m.gates.now m.constraints.now m.map.now m.marks.now c.requires.done, c.offsets-total.auto.out)))

pub slice_bounds-write-end-3 : goal.slice_bounds-write-end-3
slice_bounds-write-end-3 c =
    let t = c.args.table in
    let m = c.args.made in
    sym (length-take-le _ _ (omega (arith, few (source t.nodes.now t.addrs.now t.word) m.gates.now m.constraints.now m.map.now m.marks.now c.requires.done, c.requires.done.marks)))

pub write-requires : goal.write-requires
write-requires c =
    let t = c.args.table in
    let p =
    write-asks (source t.nodes.now t.addrs.now t.word) c.args.made.gates.now c.args.made.constraints.now c.args.made.map.now c.args.made.marks.now c.requires.done
    _ refl _ _ c.offsets-total.ensures c.args.out.now c.requires.in_bounds in
    record { offsets = p.0; constraints_in_bounds = p.1 }

pub returns : goal.returns
returns c =
    let t = c.args.table in
    done-written (source t.nodes.now t.addrs.now t.word) c.args.made.gates.now c.args.made.constraints.now c.args.made.map.now c.args.made.marks.now c.requires.done
    _ refl _ _ c.offsets-total.ensures c.args.out.now _ _ c.write.ensures
