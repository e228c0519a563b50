-- The alternatives that an operator of two vectors makes of those of its operands: how many, and how alternative t is
-- put together.
--   count_of, put                      how many; one alternative of two
--   Picked                            alternative t is put together of these two
--   Operands, Picking, PickingOn      what is asked
use Rattle.std.specs.Prelude.{ℕ, ◌+◌, ◌-◌, ◌*◌, ◌<◌, ◌≤◌, ◌≡◌, List, [], ◌++◌, length, get_or}
use Rattle.alf.specs.Expressions.{Join, followed_by_join, either_order, with_or_then, any_order, with, or_else}
use Rattle.alf.specs.Decoder.{join_at}
use Rattle.alf.specs.Alternatives.{Alternative, overlaid, rewritten}
use Rattle.alternatives.specs.declared.picking.How.{How}
use Rattle.alternatives.specs.declared.picking.How.TheVariants.{Left, Right, LeftFirst, RightFirst, Together}

-- how many alternatives an operator makes of n and m of them
unfoldable pub count_of : Join → ℕ → ℕ → ℕ
count_of followed_by_join n m = n * m
count_of either_order n m = n * m + n * m
count_of with_or_then n m = n * m + n * m
count_of any_order n m = n * m + n * m + n * m
count_of with n m = n * m
count_of or_else n m = n + m

-- one alternative of two: the left one or the right one alone, one after the other, or both at the same time
unfoldable pub put : How → Alternative → Alternative → Alternative
put Left x y = x
put Right x y = y
put LeftFirst x y = x ++ y
put RightFirst x y = y ++ x
put Together x y = overlaid x y

-- alternative t of those that an operator makes of n and m is put together of alternatives `left` and `right`
pub record Picked (j : Join) (n m t : ℕ) (how : How) (left right : ℕ) : Type 0 where
  pub lower : left < n
  pub upper : right < m
  pub is : (xs ys : List Alternative) → length xs ≡ n → length ys ≡ m
      → get_or (rewritten j xs ys) t [] ≡ put how (get_or xs left []) (get_or ys right [])

-- what is asked: byte b is an operator of two vectors, of each operand there are some alternatives, within the limit,
-- and t is one of those that b makes; or it is one behind the first n * m
pub record Operands (b n m : ℕ) : Type 0 where
  pub joins : 50 ≤ b
  pub no_more : b < 56
  pub some_left : 0 < n
  pub some_right : 0 < m
  pub few_left : n ≤ 64
  pub few_right : m ≤ 64

pub record Picking (b n m t : ℕ) : Type 0 where
  pub operands : Operands b n m
  pub there : t < count_of (join_at (b - 50)) n m

pub record PickingOn (b n m v : ℕ) : Type 0 where
  pub operands : Operands b n m
  pub product : b < 55
  pub there : n * m + v < count_of (join_at (b - 50)) n m
