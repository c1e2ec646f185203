-- Writes one after another.
use Rattle.std.proofs.Common.{◌≡◌, ◌≤◌, ℕ, List, [], ◌++◌, arith, sym, refl, ◌∙◌, subst, append_assoc, append-nil, Option, Result, Ok, Err}
use Rattle.std.specs.Io.KnownBytes.{Appends}
use Rattle.std.specs.Result.{IsErr}
use Rattle.std.proofs.KnownBytes.{Appends-nil, Appends-trans}
use Rattle.xsv_io.specs.Writing.{AppendsFront}
use Rattle.xsv_io.specs.Written.{Written}
use Rattle.xsv_io.proofs.Failing.{failed, rose-later}
use Rattle.xsv_io.proofs.Fronts.{front_before, front_behind}

-- some text was written, and with what is left it is the whole
abbrev pub IsBegun : Option (List ℕ) → Option (List ℕ) → List ℕ → List ℕ → Type 0
IsBegun old new left whole = (said : List ℕ) × Appends old new said × (said ++ left ≡ whole)

pub nothing_yet : (old : Option (List ℕ)) (whole : List ℕ) → IsBegun old old whole whole
nothing_yet old whole = ([], Appends-nil old, refl)

module _ (a b c : Option (List ℕ)) (text rest whole : List ℕ) (begun : IsBegun a b (text ++ rest) whole) where
  pub then_more : Appends b c text → IsBegun a c rest whole
  then_more h = (begun.0 ++ text, Appends-trans a b c begun.0 text begun.1 h, append_assoc begun.0 text rest ∙ begun.2)

  pub then_front : AppendsFront b c text → AppendsFront a c whole
  then_front front = subst (AppendsFront a c) begun.2 (front_behind a b c begun.0 (text ++ rest) begun.1 (front_before b c text rest front))

pub to_the_end : (a b : Option (List ℕ)) (whole : List ℕ) → IsBegun a b [] whole → Appends a b whole
to_the_end a b whole begun = subst (Appends a b) (sym (append-nil begun.0) ∙ begun.2) begun.1

module _ {W : Type 0} (taken : W → Option (List ℕ)) (faults : W → ℕ) (bound : W → Option ℕ) where
  -- a text was written, and what is answered behind it is answered of both
  pub written_then : {E : Type 0} (old between new : W) (r : Result Unit E) (text rest whole : List ℕ) → text ++ rest ≡ whole
      → Appends (taken old) (taken between) text → faults old ≤ faults between → bound between ≡ bound old
      → Written taken faults bound between new r rest → Written taken faults bound old new r whole
  written_then old between new (Ok x) text rest whole same h later kept w = record {
    all = subst (Appends (taken old) (taken new)) same (Appends-trans (taken old) (taken between) (taken new) text rest h w.all);
    front = tt;
    cause = record { later = omega (arith, later, w.cause.later); failed = tt };
    kept = w.kept ∙ kept;
  }
  written_then old between new (Err e) text rest whole same h later kept w =
      failed taken faults bound old new (Err e) whole refl
      (subst (AppendsFront (taken old) (taken new)) same (front_behind (taken old) (taken between) (taken new) text rest h w.front))
      (omega (arith, later, w.cause.later)) (rose-later later w.cause.failed) (w.kept ∙ kept)

  -- a write failed, and so does what was to write more
  pub written_short : {E F : Type 0} (old new : W) (e : E) (r : Result Unit F) (text rest whole : List ℕ) → text ++ rest ≡ whole
      → IsErr r → Written taken faults bound old new (Err e) text → Written taken faults bound old new r whole
  written_short old new e r text rest whole same is w =
      failed taken faults bound old new r whole is
      (subst (AppendsFront (taken old) (taken new)) same (front_before (taken old) (taken new) text rest w.front))
      w.cause.later w.cause.failed w.kept
