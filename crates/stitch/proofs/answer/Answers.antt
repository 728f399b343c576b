use mathlib.Core.Path.{refl, sym}
use native.Mathlib.Omega.{arith}
use lib.Seq.{length-take-le}
use Rattle.stitch.proofs.Facts.{refused-fits, text-refused, read_fits, text-table}
use Rattle.stitch.proofs.answer.Goals as goal

pub write_refused-requires : goal.write_refused-requires
write_refused-requires c = refused-fits _ c.requires

pub returns-in_default : goal.returns-in_default
returns-in_default c = text-refused c.args.text.now _ _ _ _ (record { addrs = refl; nodes = refl }) _ c.read_text.ensures c.in_default.is c.args.out.now _ _ c.write_refused.ensures

pub overflow_mul-end : goal.overflow_mul-end
overflow_mul-end c = omega (arith, (read_fits c.args.text.now _ _ _ _ (record { addrs = refl; nodes = refl }) _ c.read_text.ensures _ _ _ c.in-Some.is).1)

pub slice_bounds-nodes-end : goal.slice_bounds-nodes-end
slice_bounds-nodes-end c =
    omega (arith, (read_fits c.args.text.now _ _ _ _ (record { addrs = refl; nodes = refl }) _ c.read_text.ensures _ _ _ c.in-Some.is).1, c.read_text.auto.nodes)

pub slice_bounds-source-end : goal.slice_bounds-source-end
slice_bounds-source-end c =
    sym (length-take-le _ _ (omega (arith, (read_fits c.args.text.now _ _ _ _ (record { addrs = refl; nodes = refl }) _ c.read_text.ensures _ _ _ c.in-Some.is).1, c.read_text.auto.nodes)))

pub slice_bounds-addrs-end : goal.slice_bounds-addrs-end
slice_bounds-addrs-end c =
    omega (arith, (read_fits c.args.text.now _ _ _ _ (record { addrs = refl; nodes = refl }) _ c.read_text.ensures _ _ _ c.in-Some.is).0, c.read_text.auto.addrs)

pub slice_bounds-source-end-2 : goal.slice_bounds-source-end-2
slice_bounds-source-end-2 c =
    sym (length-take-le _ _ (omega (arith, (read_fits c.args.text.now _ _ _ _ (record { addrs = refl; nodes = refl }) _ c.read_text.ensures _ _ _ c.in-Some.is).0, c.read_text.auto.addrs)))

pub returns : goal.returns
returns c = text-table c.args.text.now _ _ _ _ (record { addrs = refl; nodes = refl }) _ c.read_text.ensures _ _ _ c.in-Some.is c.args.out.now _ _ c.print_table.ensures
