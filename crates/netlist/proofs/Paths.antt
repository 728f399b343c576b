-- What the code's calls come to, path by path.
use mathlib.Core.Path.{◌≡◌}
use mathlib.Core.List.{List}
use mathlib.Core.Bool.{Bool, true, false, ◌&&◌}
use Prim.Native.Nat.{ℕ, ◌≤◌, ◌<◌}
use lib.ListN.{length}
use lib.Dec.{leb}
use borrow.Author.Tests.{lt-ltb, le-ltb}
use Rattle.std.specs.declared.option.Option.TheVariants.{Some, None}
use Rattle.std.specs.declared.result.Result.TheVariants.{Ok, Err}
use Rattle.loops.specs.Loop.{pick, iter, first, found}
use Rattle.loops.proofs.Search.{some_first, none_first}
use Rattle.netlist.specs.declared.check.Refusal.TheVariants.{GateList, ValueRoom, Input}
use Rattle.netlist.specs.Record.{records, whole_records}
use Rattle.netlist.specs.Check.{faulty, list_fault}
use Rattle.netlist.specs.Eval.{eval_step, out_of_range, run, eval_sound}

-- the gate list's check
module _ (l : List ℕ) (n : ℕ) (b : Bool) (q : n ≡ records l) (w : b ≡ whole_records l) where
  pub list_found : (i : ℕ) → (b && leb 2 n) ≡ true → Some i ≡ found n (faulty l) → Err (GateList i) ≡ list_fault l
  unfolding list_fault pick
  list_found i s e = let p = some_first (faulty l) n i e in rw (← q, ← w, s, ← p.0, lt-ltb i n p.1)

  pub list_good : (b && leb 2 n) ≡ true → None ≡ found n (faulty l) → Ok tt ≡ list_fault l
  unfolding list_fault pick
  list_good s e = rw (← q, ← w, s, le-ltb (first n (faulty l)) n (none_first (faulty l) n e))

  pub list_size : (b && leb 2 n) ≡ false → Err (GateList 0) ≡ list_fault l
  unfolding list_fault pick
  list_size s = rw (← q, ← w, s)

-- the evaluator
module _ (l v : List ℕ) where
  module _ (n : ℕ) (q : n ≡ records l) where
    pub sound_room : length v < n → run (Err ValueRoom) v ≡ eval_sound l v
    unfolding eval_sound pick
    sound_room h = rw (← q, lt-ltb (length v) n h)

    module _ (m : n ≤ length v) where
      pub sound_input : (i : ℕ) → Some i ≡ found n (out_of_range l v) → run (Err (Input i)) v ≡ eval_sound l v
      unfolding eval_sound pick
      sound_input i e = let p = some_first (out_of_range l v) n i e in rw (← q, le-ltb (length v) n m, ← p.0, lt-ltb i n p.1)

      pub sound_done : (x : List ℕ) → None ≡ found n (out_of_range l v) → x ≡ iter n (eval_step l) v → run (Ok tt) x ≡ eval_sound l v
      unfolding eval_sound pick
      sound_done x e p = rw (← q, le-ltb (length v) n m, le-ltb (first n (out_of_range l v)) n (none_first (out_of_range l v) n e), p)
