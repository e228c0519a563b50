-- A byte string is a token with one code at most.
--   code_of_lem        the code, computed from the bytes
--   token_unique   one code
use Rattle.std.specs.Prelude.{if◌then◌else◌}
use mathlib.Core.Path.{◌≡◌, refl, sym, ◌∙◌}
use mathlib.Core.Bool.{true, ◌&&◌}
use mathlib.Core.List.{List, [], ◌∷◌}
use Prim.Native.Nat.{ℕ, ◌+◌}
use lib.Dec.{eqb}
use borrow.Author.Tests.{eqb-true, lt-ltb}
use Rattle.basics.specs.Words.{all}
use Rattle.alf.specs.Names.{is_letter, is_decimal, starts_name, goes_on_name, is_name}
use Rattle.alf.specs.States.{among}
use Rattle.token_steps.specs.Classes.{half_of}
use Rattle.token_steps.specs.Spelling.{Spelling, spellings, edge_code, IsToken}
use Rattle.token_steps.specs.Spelling.IsToken.{name, spelled, literal, edge, based_edge}
use Rattle.token_steps.specs.Taking.{is_plain}
use Rattle.token_steps.proofs.Bytes.{plain_unnamed}
use Rattle.basics.specs.Words.{same}
use Rattle.token_steps.proofs.Search.{all_in, in_all}

listed : List Spelling → List ℕ → ℕ
listed [] w = 0
listed (e ∷ es) w = if same e.bytes w then e.code else listed es w

by_length : List ℕ → ℕ
by_length [] = 0
by_length (a ∷ []) = listed spellings (a ∷ [])
by_length (x ∷ (y ∷ [])) =
    if is_plain x && is_plain y then edge_code (half_of x) (half_of y) else listed spellings (x ∷ (y ∷ []))
by_length (a ∷ (b ∷ (x ∷ []))) = if eqb a 39 then 31 + half_of x else listed spellings (a ∷ (b ∷ (x ∷ [])))
by_length (a ∷ (b ∷ (x ∷ (c ∷ [])))) = 0
by_length (a ∷ (b ∷ (x ∷ (c ∷ (d ∷ []))))) = 0
by_length (a ∷ (b ∷ (x ∷ (c ∷ (d ∷ (y ∷ w)))))) = edge_code (half_of x) (half_of y)

code_of : List ℕ → ℕ
code_of w = if is_name w then 0 else by_length w

codes : all_in (λ e. eqb (code_of e.bytes) e.code) spellings ≡ true
unfolding same code_of by_length listed spellings is_name starts_name is_letter is_decimal goes_on_name all half_of among
codes = refl

code_of_lem : {w : List ℕ} {c : ℕ} → IsToken w c → code_of w ≡ c
unfolding code_of by_length is_name starts_name is_letter
code_of_lem (name h) = rw h
code_of_lem (spelled m) = eqb-true _ _ (in_all (λ e. eqb (code_of e.bytes) e.code) m codes)
code_of_lem (literal x h k) = refl
code_of_lem (edge x y h k) =
    rw (plain_unnamed x (lt-ltb (half_of x) 3 h)) (rw (lt-ltb (half_of x) 3 h, lt-ltb (half_of y) 3 k))
code_of_lem (based_edge x y h k) = refl

pub token_unique : {w : List ℕ} {c d : ℕ} → IsToken w c → IsToken w d → c ≡ d
token_unique s t = sym (code_of_lem s) ∙ code_of_lem t
