use native.Mathlib.Omega.{arith}
use Rattle.digits.proofs.Numbers.{powers-less}
use Rattle.words.specs.Each.{word_of}
use Rattle.words.proofs.Paths.{joins-or, stages-fit, join-room, clear_room, shift-path}
use Rattle.words.proofs.shift.shift_words.Goals as goal

pub shift_stages-requires-clause-fits : goal.shift_stages-requires-clause-fits
shift_stages-requires-clause-fits c = omega (arith, stages-fit c.args.w c.powers_below-s.result c.requires.le_w.0 c.powers_below-s.ensures)

pub slice_bounds-join_all-count : goal.slice_bounds-join_all-count
slice_bounds-join_all-count c = omega (arith, powers-less c.args.w c.requires.le_w.0)

pub slice_bounds-join_all-start : goal.slice_bounds-join_all-start
slice_bounds-join_all-start c = omega (arith, powers-less c.args.w c.requires.le_w.0)

pub overflow_sub-w : goal.overflow_sub-w
overflow_sub-w c = omega (arith, powers-less c.args.w c.requires.le_w.0)

pub join_all-over-requires : goal.join_all-over-requires
join_all-over-requires c = record {
  joins = joins-or;
  fits =
      omega (
        arith,
        join-room c.args.to c.args.w c.powers_below-s.result c.args.bits.now c.args.amount.now (word_of c.args.list.now c.args.out.now) _ c.requires.le_w.0 c.requires.le_w.1
            c.requires.le_w.4 c.powers_below-s.ensures c.put_bits.ensures c.shift_stages.new.list _ c.shift_stages.ensures.made,
      );
  le_w = omega (arith, powers-less c.args.w c.requires.le_w.0);
}

pub each_onto-requires-clause-fits : goal.each_onto-requires-clause-fits
each_onto-requires-clause-fits c =
    omega (
      arith,
      clear_room c.args.to c.args.w c.powers_below-s.result c.args.bits.now c.args.amount.now (word_of c.args.list.now c.args.out.now) _ c.requires.le_w.0 c.requires.le_w.1
          c.requires.le_w.4 c.powers_below-s.ensures c.put_bits.ensures c.shift_stages.new.list _ c.shift_stages.ensures.made c.join_all-over.new.list c.join_all-over.result
          c.join_all-over.ensures.made,
    )

pub returns-clause-made : goal.returns-clause-made
returns-clause-made c =
    shift-path c.args.to c.args.w c.powers_below-s.result c.args.bits.now c.args.amount.now (word_of c.args.list.now c.args.out.now) _ c.requires.le_w.0 c.requires.le_w.1 c.requires.le_w.4
    c.powers_below-s.ensures c.put_bits.ensures c.shift_stages.new.list _ c.shift_stages.ensures.made c.join_all-over.new.list c.join_all-over.result c.join_all-over.ensures.made _
    c.each_onto.ensures.made
