-- The laws that the steps of reads and writes ask for hold of every table without fault.
use Prim.Native.Nat.{◌≤◌}
use native.Mathlib.Omega.{arith}
use Rattle.table.proofs.Whole.{within}
use Rattle.words.proofs.NumLaws.{blank-long}
use Rattle.memory.proofs.ReadLaws.{read-law}
use Rattle.memory.proofs.WriteLaws.{write-law}
use Rattle.nodes.specs.Source.{Source, listed}
use Rattle.nodes.specs.Own.{fresh}
use Rattle.nodes.proofs.MemoryLaws.{ReadsOwed, WritesOwed}
use Rattle.nodes.proofs.MeaningPlaces.{Sheeted, listed-good}

module _ (S : Source) (clear : Sheeted S) where
  word-range : (1 ≤ S.word) × (S.word ≤ 64)
  word-range = let q = within S.table S.addrs S.word clear in (q.3, q.4)

  pub reads_owed : ReadsOwed S
  reads_owed mem adr s =
      read-law (listed S) S.word S.addrs mem adr (listed-good S clear) word-range.0 word-range.1 (fresh s) (omega (arith, blank-long, word-range.1))

  pub writes-owed : WritesOwed S
  writes-owed adr val mem s fits = write-law (listed S) S.word S.addrs adr val mem (listed-good S clear) word-range.0 word-range.1 fits s
