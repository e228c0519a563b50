-- `clear` meets its contract.
use native.Mathlib.Omega.{arith}
use Prim.Native.Nat.{ℕ, ◌+◌, ◌-◌, ◌≤◌}
use mathlib.Core.Path.{◌≡◌, sym, ap, ◌∙◌}
use mathlib.Core.List.{List, ◌++◌}
use lib.ListN.{length, replicate, take, drop, length-drop, length-replicate}
use lib.Seq.{sets, drop-drop, length-take-le}
use borrow.Rule.Slice.PartMut.{put_mid}
use Rattle.basics.specs.Memory.{placed}
use Rattle.basics.proofs.Stores.{sets_placed}
use Rattle.record_copies.proofs.copies.clear.Goals as goal

-- a part put back with other entries
filled : (d ys zs : List ℕ) (at k : ℕ) → ys ≡ zs → length zs ≡ k → at + k ≤ length d → put_mid at k d ys ≡ sets d at zs
unfolding placed
filled d ys zs at k e f h =
    rw (e, ← f)
    (ap (λ (l : List ℕ). take at d ++ (zs ++ l)) (drop-drop (length zs) at d)
    ∙ sym (sets_placed d at zs (omega arith)))

pub returns : goal.returns
returns c =
    let size : length (replicate {A = ℕ} c.args.n 0) ≡ c.args.n = length-replicate {A = ℕ} c.args.n 0 in
    let part : c.args.at + c.args.n - c.args.at ≡ c.args.n = omega arith in
    let there : length (take (c.args.at + c.args.n - c.args.at) (drop c.args.at c.args.out.now)) ≡ c.args.n =
    length-take-le _ _ (omega (arith, length-drop c.args.at c.args.out.now, c.requires)) ∙ part in
    record {
      bytes =
          filled c.args.out.now c.fill.new.self (replicate {A = ℕ} c.args.n 0) c.args.at _
          (c.fill.ensures.after (λ y h. h) ∙ ap (λ (m : ℕ). replicate {A = ℕ} m 0) there)
          (size ∙ sym part) (omega (arith, part, c.requires));
      next = omega arith;
    }
