use mathlib.Core.Path.{refl, sym}
use native.Mathlib.Omega.{arith}
use lib.Seq.{length-take-le}
use Rattle.nodes.specs.Source.{source}
use Rattle.netlist.specs.Record.{used}
use Rattle.stitch.specs.Printed.{cleared}
use Rattle.stitch.proofs.Facts.{refused-fits, table-refused, used-fits, done-asks, table_done}
use Rattle.stitch.proofs.print.print_table.Goals as goal

pub write_refused-requires : goal.write_refused-requires
write_refused-requires c = refused-fits _ c.requires

pub returns-in-Err : goal.returns-in-Err
unfolding cleared
returns-in-Err c =
    let t = c.args.table in
    table-refused (source t.nodes.now t.addrs.now t.word) _ _ _ _ refl refl refl refl _ _ _ _ _ (c.lower_marked-answer.ensures.promise, c.lower_marked-answer.ensures.marks_after) _ c.in-Err.is _ _ c.number.ensures c.place-place.ensures c.args.out.now _ _ c.write_refused.ensures

pub overflow_mul-asked : goal.overflow_mul-asked
unfolding cleared
overflow_mul-asked c =
    let t = c.args.table in
    let l = c.lower_marked-answer in
    let u =
    used-fits (source t.nodes.now t.addrs.now t.word) _ _ _ _ refl refl refl refl _ _ _ _ _ (l.ensures.promise, l.ensures.marks_after) _
    c.in-Ok.is l.auto.gates l.auto.constraints l.auto.map l.auto.marks in
    omega (arith, u.1)

pub part-requires : goal.part-requires
unfolding cleared
part-requires c =
    let t = c.args.table in
    let l = c.lower_marked-answer in
    let u =
    used-fits (source t.nodes.now t.addrs.now t.word) _ _ _ _ refl refl refl refl _ _ _ _ _ (l.ensures.promise, l.ensures.marks_after) _
    c.in-Ok.is l.auto.gates l.auto.constraints l.auto.map l.auto.marks in
    omega (arith, u.0, u.3)

pub slice_bounds-constraints-end : goal.slice_bounds-constraints-end
unfolding cleared
slice_bounds-constraints-end c =
    let t = c.args.table in
    let l = c.lower_marked-answer in
    let u =
    used-fits (source t.nodes.now t.addrs.now t.word) _ _ _ _ refl refl refl refl _ _ _ _ _ (l.ensures.promise, l.ensures.marks_after) _
    c.in-Ok.is l.auto.gates l.auto.constraints l.auto.map l.auto.marks in
    u.2

pub slice_bounds-made-end : goal.slice_bounds-made-end
unfolding cleared
slice_bounds-made-end c =
    let t = c.args.table in
    let l = c.lower_marked-answer in
    let u =
    used-fits (source t.nodes.now t.addrs.now t.word) _ _ _ _ refl refl refl refl _ _ _ _ _ (l.ensures.promise, l.ensures.marks_after) _
    c.in-Ok.is l.auto.gates l.auto.constraints l.auto.map l.auto.marks in
    sym (length-take-le _ _ u.2)

pub print_done-requires : goal.print_done-requires
unfolding cleared
print_done-requires c =
    let t = c.args.table in
    let l = c.lower_marked-answer in
    let d =
    done-asks (source t.nodes.now t.addrs.now t.word) _ _ _ _ refl refl refl refl _ _ _ _ _ (l.ensures.promise, l.ensures.marks_after) _
    c.in-Ok.is l.auto.gates l.auto.constraints l.auto.map l.auto.marks (used c.in-Ok.done.gates) _ c.part.ensures in
    record { done = d.3; in_bounds = c.requires }

pub returns-in-Ok : goal.returns-in-Ok
unfolding cleared
returns-in-Ok c =
    let t = c.args.table in
    let l = c.lower_marked-answer in
    table_done (source t.nodes.now t.addrs.now t.word) _ _ _ _ refl refl refl refl _ _ _ _ _ (l.ensures.promise, l.ensures.marks_after) _
    c.in-Ok.is _ c.part.ensures c.args.out.now _ _ c.print_done.ensures
