-- How far the writing of several parts is at a point of a function, so that each later point says only what it adds.
--   Stage, stage    Going, with what it speaks of as fields: its type does not name the lists of the point
-- A stage of a point is an `abbrev`, so that its fields are the point's own lists wherever it is used.
use Prim.Native.Nat.{ℕ}
use mathlib.Core.List.{List}
use Rattle.basics.proofs.PartByPart.{Going}

pub record Stage : Type 0 where
  pub out : List ℕ
  pub at : ℕ
  pub whole : List ℕ
  pub left : List (List ℕ)
  pub out' : List ℕ
  pub p : ℕ
  pub going : Going out at whole left out' p

abbrev pub stage :
    {out : List ℕ} {at : ℕ} {whole : List ℕ} {left : List (List ℕ)} {out' : List ℕ} {p : ℕ} →
    Going out at whole left out' p →
    Stage
stage {out} {at} {whole} {left} {out'} {p} g =
    record { out = out; at = at; whole = whole; left = left; out' = out'; p = p; going = g }
