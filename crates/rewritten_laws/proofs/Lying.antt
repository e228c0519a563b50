-- Where the bytes of a part lie in a tree.
--   Lies                         some bytes lie in a tree, right before a place
--   lies_whole                   all of them
--   lies_first, lies_second      the bytes of two operands, with the operator's byte behind them
--   lies_within, lies_part       they are a part of the tree
use Prim.Native.Nat.{ℕ, ◌+◌, ◌-◌, ◌≤◌}
use native.Mathlib.Omega.{arith}
use mathlib.Core.Path.{◌≡◌, ap, sym, ◌∙◌}
use mathlib.Core.List.{List, [], ◌∷◌, ◌++◌, append-nil, append_assoc}
use lib.ListN.{length, take, drop, length-append}
use lib.Seq.{take_at, drop-append_seam}

pub record Lies (tree : List ℕ) (end : ℕ) (w : List ℕ) : Type 0 where
  pub before : List ℕ
  pub behind : List ℕ
  pub is : tree ≡ before ++ (w ++ behind)
  pub ends : end ≡ length before + length w

pub lies_whole : (w : List ℕ) → Lies w (length w) w
lies_whole w = record { before = []; behind = []; is = sym (append-nil w); ends = omega arith }

module _ {tree : List ℕ} {end : ℕ} (u v : List ℕ) (b : ℕ) (l : Lies tree end (u ++ (v ++ (b ∷ [])))) where
  long : end ≡ length l.before + (length u + (length v + 1))
  long = omega (arith, l.ends, length-append u (v ++ (b ∷ [])), length-append v (b ∷ []))

  pub lies_first : Lies tree (end - 1 - length v) u
  lies_first =
      record {
        before = l.before;
        behind = v ++ (b ∷ l.behind);
        is =
            l.is
            ∙ ap (◌++◌ l.before)
            (append_assoc u (v ++ (b ∷ [])) l.behind ∙ ap (◌++◌ u) (append_assoc v (b ∷ []) l.behind));
        ends = omega (arith, long);
      }

  pub lies_second : Lies tree (end - 1) v
  unfolding lies_first
  lies_second =
      record {
        before = l.before ++ u;
        behind = b ∷ l.behind;
        is = lies_first.is ∙ sym (append_assoc l.before u (v ++ (b ∷ l.behind)));
        ends = omega (arith, long, length-append l.before u);
      }

module _ {tree : List ℕ} {end : ℕ} {w : List ℕ} (l : Lies tree end w) where
  pub lies_within : end ≤ length tree
  lies_within =
      let e = ap length l.is in
      omega (arith, l.ends, length-append l.before (w ++ l.behind), length-append w l.behind)

  pub lies_part : take (end - length l.before) (drop (length l.before) tree) ≡ w
  lies_part =
      ap (λ (t : List ℕ). take (end - length l.before) (drop (length l.before) t)) l.is
      ∙ ap (take (end - length l.before)) (drop-append_seam l.before (w ++ l.behind))
      ∙ take_at w l.behind (end - length l.before) (omega (arith, l.ends))
