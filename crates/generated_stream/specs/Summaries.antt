-- What the output of a session comes to.
use Rattle.std.specs.Prelude.{length, ◌≡◌, ℕ, ◌+◌, ◌-◌, ◌==◌, List, [], ◌∷◌, ◌++◌, Bool, Option, None, Some, codes, if◌then◌else◌, nat_eq}
use Rattle.std.specs.List.{slice_split, starts_with}
use Rattle.std.specs.Fmt.{decimal}
use Rattle.std.specs.Option.{option_map}
use Rattle.generated_stream.specs.declared.summary.Tally.{Tally}
use Rattle.generated_stream.specs.declared.summary.Cut.{Cut}

abbrev pub begins : List ℕ → List ℕ → Bool
begins front line = starts_with nat_eq line front

abbrev pub lines : List ℕ → List (List ℕ)
lines output = slice_split (λ b. b == 10) output

-- how many lines begin so
abbrev pub count_of : List ℕ → List (List ℕ) → ℕ
count_of front [] = 0
count_of front (l ∷ more) = (if begins front l then 1 else 0) + count_of front more

-- the first line that begins with `end`
abbrev pub first_end : List (List ℕ) → List ℕ
first_end [] = []
first_end (l ∷ more) = if begins (codes "end ") l then l else first_end more

-- the edits that were accepted: the first `ok` says that the document is open
abbrev pub accepted : List ℕ → ℕ
accepted output = count_of (codes "ok ") (lines output) - 1

abbrev pub refused : List ℕ → ℕ
refused output = count_of (codes "no ") (lines output)

abbrev pub end_line : List ℕ → List ℕ
end_line output = first_end (lines output)

-- how many lines a stream had, and how many edits were accepted and refused
abbrev pub counts_text : ℕ → ℕ → ℕ → List ℕ
counts_text count accepted refused =
    codes "lines " ++ (decimal count ++ (codes "\naccepted " ++ (decimal accepted ++ (codes " refused " ++ (decimal refused ++ 10 ∷ [])))))

-- the lines of a trial
abbrev pub trial_text : ℕ → ℕ → ℕ → List ℕ → List ℕ
trial_text count accepted refused end = counts_text count accepted refused ++ (end ++ 10 ∷ [])

-- the line of the end that a tally has
abbrev pub end_of : Tally → Option (List ℕ)
end_of t = option_map (λ e. e.now) t.end

-- the line of the end, where some lines were counted and these are left
abbrev pub end_with : Option (List ℕ) → List (List ℕ) → List ℕ
end_with None more = first_end more
end_with (Some end) more = end

-- a line was counted
pub record IsOneMore (line : List ℕ) (old new : Tally) : Type 0 where
  pub accepted_is : new.accepted ≡ old.accepted + (if begins (codes "ok ") line then 1 else 0)
  pub refused_is : new.refused ≡ old.refused + (if begins (codes "no ") line then 1 else 0)
  pub end_is : (more : List (List ℕ)) → end_with (end_of new) more ≡ end_with (end_of old) (line ∷ more)

-- the first line of a text, and what is behind its line feed
pub record IsCut (text : List ℕ) (c : Cut) : Type 0 where
  pub lines_are : lines text ≡ c.line.now ∷ lines c.behind.now
  pub shorter : length text ≡ length c.line.now + 1 + length c.behind.now
