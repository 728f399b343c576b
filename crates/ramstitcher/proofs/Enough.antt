-- Whoever reads more bytes than any acceptable text has needs no further ones: the answer to them is the answer to the whole text.
use mathlib.Core.Path.{◌≡◌, refl, sym, ap, subst, ◌∙◌}
use mathlib.Core.List.{List}
use mathlib.Core.Bool.{Bool, true, false, not}
use Prim.Native.Nat.{ℕ, ◌<◌}
use native.Mathlib.Omega.{arith}
use lib.Dec.{T, leb, leb→le, nleb→lt}
use lib.ListN.{length, take, length-take}
use lib.Seq.{take_all}
use Rattle.std.specs.Prelude.{None}
use Rattle.text.specs.Plain.{Plain, plain_text}
use Rattle.text.specs.Plain.Plain.{plain}
use Rattle.text.specs.Read.{answer_of}
use Rattle.text.specs.Write.{refused_line}
use Rattle.text.proofs.Sizes.{longest-text}
use Rattle.stitch.specs.Printed.{plain_lines, printed}
use Rattle.ramstitcher.specs.Longest.{LONGEST}

refused-lines : (p : Plain) → answer_of p ≡ None → plain_lines p ≡ refused_line 1 0
unfolding answer_of plain_lines
refused-lines (plain true w xs ns) h = cc
refused-lines (plain false w xs ns) h = refl

-- "A text of 100 MB of anything ends in a refusal"
pub too_long : (x : List ℕ) → LONGEST < length x → printed x ≡ refused_line 1 0
unfolding printed
too_long x h = refused-lines (plain_text 64 512 x) (longest-text x h)

pub enough : (n : ℕ) (x : List ℕ) → LONGEST < n → printed (take n x) ≡ printed x
enough n x h = go (leb (length x) n) refl
  where
    go : (b : Bool) → leb (length x) n ≡ b → printed (take n x) ≡ printed x
    go true e = ap printed (take_all n x (leb→le (length x) n (subst T (sym e) tt)))
    go false e =
        let l : n < length x = nleb→lt (length x) n (subst (λ b. T (not b)) (sym e) tt) in
        let k : LONGEST < length (take n x) = rw (length-take n x) (omega arith) in
        too_long (take n x) k ∙ sym (too_long x (omega arith))
