-- The text of an alternative of a pattern, as a person reads it.
--   test_text           a test, or `...` where its text cannot be read back: over 256 nodes, 32 brackets, 4,096 bytes
--   step_text           the tests of a step between ` & `; an empty step is `( )`
--   alternative_text    the steps of an alternative between ` -> `
--   readable, expression_of, behind, missing     when a test's text can be read back, and its parts
--   untold_test, untold how many tests of some alternatives are shown as `...`
use Rattle.std.specs.Prelude.{ℕ, Bool, ◌&&◌, List, [], ◌∷◌, ◌++◌, map, leb, length, if◌then◌else◌}
use Rattle.basics.specs.Words.{sum_of}
use Rattle.alf.specs.Expressions.{Expression, vector, edge}
use Rattle.alf.specs.Bytes.{bytes_of}
use Rattle.alf.specs.Alternatives.{Test, test, Step, Alternative}
use Rattle.trees.specs.Brackets.{depth_of}
use Rattle.writer.specs.Trees.{text}
use Rattle.basics.specs.Text.{bytes}

-- an expression has a text that can be read back: at most 256 nodes, brackets at most 32 deep, at most 4,096 bytes
unfoldable pub readable : List ℕ → Expression → Bool
readable names e = leb (length (bytes_of e)) 256 && (leb (depth_of e) 32 && leb (length (text names e)) 4096)

unfoldable pub shown : List ℕ → Expression → List ℕ
shown names e = if readable names e then text names e else bytes "..."

-- a test is the expression of its edge and its operand
unfoldable pub expression_of : Test → Expression
expression_of (test e c) = vector (edge e c)

unfoldable pub test_text : List ℕ → Test → List ℕ
test_text names x = shown names (expression_of x)

-- some texts, with another one between two of them
unfoldable pub behind : List ℕ → List (List ℕ) → List ℕ
behind gap [] = []
behind gap (w ∷ ws) = gap ++ (w ++ behind gap ws)

unfoldable pub between : List ℕ → List (List ℕ) → List ℕ
between gap [] = []
between gap (w ∷ ws) = w ++ behind gap ws

unfoldable pub step_text : List ℕ → Step → List ℕ
step_text names [] = bytes "( )"
step_text names (t ∷ s) = between (bytes " & ") (map (test_text names) (t ∷ s))

unfoldable pub alternative_text : List ℕ → Alternative → List ℕ
alternative_text names x = between (bytes " -> ") (map (step_text names) x)

-- 1 where an expression is shown as `...`, else 0
unfoldable pub missing : List ℕ → Expression → ℕ
missing names e = if readable names e then 0 else 1

unfoldable pub untold_test : List ℕ → Test → ℕ
untold_test names x = missing names (expression_of x)

-- how many tests of all steps of all alternatives are shown as `...`
unfoldable pub untold : List ℕ → List Alternative → ℕ
untold names xs = sum_of (sum_of (sum_of (untold_test names))) xs
