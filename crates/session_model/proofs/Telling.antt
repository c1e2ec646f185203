-- How the lines of a report are told, one after another.
use Rattle.std.proofs.Common.{◌≡◌, ◌==◌, ◌-◌, ◌++◌, ℕ, zero, suc, List, [], ◌∷◌, Bool, true, false, Option, Some, None, Ok, refl, sym, ap, ◌∙◌, append_assoc, arith}
use Rattle.std.specs.Prelude.{◌&&◌, not, take, filter, if◌then◌else◌}
use Rattle.std.proofs.lemmas.Bool.Decides.{nat_tests}
use Rattle.std.proofs.KnownBytes.{Appends-nil}
use Rattle.xsv_io.specs.Written.{Written}
use Rattle.session_model.specs.Reports.{Line, has_code, lines_text}
use Rattle.session_model.specs.inside.Telling.{is_told, told_text, left_behind, left_all, text_of}

is-some : (m : ℕ) → (suc m == 0) ≡ false
is-some m = grind (arith, nat_tests)

one-less : (m : ℕ) → suc m - 1 ≡ m
one-less m = omega arith

-- a line with a code or without one, where so many more may be told
counted : (some : Bool) (most : ℕ) (l : Line) (later : List Line)
    → lines_text (take most (if some then l ∷ filter has_code later else filter has_code later))
    ≡ (if some && not (most == 0) then l.text else []) ++ text_of (if some && not (most == 0) then Some (most - 1) else Some most) later
counted false most l later = refl
counted true zero l later = refl
counted true (suc m) l later =
    sym (ap (λ (b : Bool). (if not b then l.text else []) ++ text_of (if not b then Some (suc m - 1) else Some (suc m)) later) (is-some m)
    ∙ ap (λ (k : ℕ). l.text ++ text_of (Some k) later) (one-less m))

-- what is told of lines is what is told of the first, and of the others behind it
pub line-then : (left : Option ℕ) (l : Line) (later : List Line) → text_of left (l ∷ later) ≡ told_text left l ++ text_of (left_behind left l.codes) later
line-then None l later = refl
line-then (Some most) l later = counted (has_code l) most l later

pub no-lines : (left : Option ℕ) → text_of left [] ≡ []
no-lines None = refl
no-lines (Some zero) = refl
no-lines (Some (suc m)) = refl

pub lines-then : (left : Option ℕ) (lines later : List Line) → text_of left (lines ++ later) ≡ text_of left lines ++ text_of (left_all left lines) later
lines-then left [] later = ap (λ (t : List ℕ). t ++ text_of left later) (sym (no-lines left))
lines-then left (l ∷ lines) later =
    line-then left l (lines ++ later)
    ∙ (ap (λ (t : List ℕ). told_text left l ++ t) (lines-then (left_behind left l.codes) lines later)
    ∙ (sym (append_assoc (told_text left l) (text_of (left_behind left l.codes) lines) (text_of (left_all (left_behind left l.codes) lines) later))
    ∙ ap (λ (t : List ℕ). t ++ text_of (left_all (left_behind left l.codes) lines) later) (sym (line-then left l lines))))

-- ---- what was written of a line

pub told-yes : (left : Option ℕ) (l : Line) → is_told left l.codes ≡ true → l.text ≡ told_text left l
told-yes left l is = ap (λ (told : Bool). if told then l.text else []) (sym is)

pub told-no : (left : Option ℕ) (l : Line) → is_told left l.codes ≡ false → [] ≡ told_text left l
told-no left l is = ap (λ (told : Bool). if told then l.text else []) (sym is)

-- nothing was written
pub nothing-written : {W E : Type 0} (taken : W → Option (List ℕ)) (faults : W → ℕ) (bound : W → Option ℕ) (sink : W) → Written {W = W} {E = E} taken faults bound sink sink (Ok tt) []
nothing-written taken faults bound sink = record { all = Appends-nil (taken sink); front = tt; cause = record { later = omega arith; failed = tt }; kept = refl }
