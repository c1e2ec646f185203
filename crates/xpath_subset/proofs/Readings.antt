-- What is read of a whole text.
use Rattle.std.proofs.Common.{◌≡◌, ℕ, ◌==◌, List, [], Option, None, Some, Result, Ok, Err, map, count_by, refl, sym, ◌∙◌, subst}
use Rattle.std.specs.List.{slice_split}
use Rattle.std.specs.Result.{IfOk}
use Rattle.std.proofs.lemmas.List.{length-map}
use Rattle.std.proofs.lemmas.List.Splits.{length-slice_split}
use Rattle.xpath_subset.specs.declared.path.Path.{Path}
use Rattle.xpath_subset.specs.declared.reading.Kind.{Kind}
use Rattle.xpath_subset.specs.declared.reading.Refusal.{Refusal}
use Rattle.xpath_subset.specs.declared.reading.Refusal.TheVariants.{Memory, Syntax}
use Rattle.xpath_subset.specs.declared.reading.XPathFault.{XPathFault}
use Rattle.xpath_subset.specs.declared.reading.XPathFault.TheVariants as faults
use Rattle.xpath_subset.specs.Grammar.{WrittenPath, WrittenPaths, IsPath, ArePaths, IsReading, all_there, path_meaning, paths_meaning}
use Rattle.xpath_subset.specs.inside.Gives.{Gives, AreWritten, AreWrittenAndLast, answer_of}
use Rattle.xpath_subset.specs.inside.Lasts.{IsLastOf}
use Rattle.xpath_subset.specs.inside.Trims.{trim_white, IsTight}
use Rattle.xpath_subset.proofs.Pieces.{IsPlain}
use Rattle.xpath_subset.proofs.Plain.{bar_apart, path_plain, tight_cons}
use Rattle.xpath_subset.proofs.Lasts.{kind_plain}
use Rattle.xpath_subset.proofs.Trimmed.{trimmed_from, trimmed_tight}
use Rattle.xpath_subset.proofs.Ways.{last_piece, gives_alike, gives_text, ends_tight}

-- a path of a kind is tight, and has no `|`
kind_path : (kind : Kind) (path : WrittenPath) (text : List ℕ) → IsPath (IsLastOf kind) path text → IsPlain (λ b. b == 124) text
kind_path kind path text is = path_plain (IsLastOf kind) (kind_plain (λ b. b == 124) bar_apart kind) path text is

-- a text with white space at its ends has no paths
pub paths_trimmed : (kind : Kind) (text : List ℕ) (paths : WrittenPaths) → ArePaths (IsLastOf kind) text paths → trim_white text ≡ text
paths_trimmed kind text paths are = trimmed_tight text (ends_tight 124 (IsPath (IsLastOf kind)) (IsPath (IsLastOf kind)) (tight_cons 124 [] refl) tight tight paths.0 paths.1 text are)
  where
    tight : (path : WrittenPath) (text : List ℕ) → IsPath (IsLastOf kind) path text → IsTight text
    tight path text is = (kind_path kind path text is).tight

pub gives_paths : (kind : Kind) (scope : List (List ℕ × ℕ)) (text : List ℕ) → trim_white text ≡ text → (r : Result (Option (List Path)) Refusal)
    → Gives (λ paths. AreWritten (IsPath (IsLastOf kind)) paths (map trim_white (slice_split (λ b. b == 124) text))) (λ paths. all_there (map (path_meaning scope) paths)) r → Gives (ArePaths (IsLastOf kind) text) (paths_meaning scope) r
gives_paths kind scope text trimmed r gives =
    let last = last_piece (map trim_white (slice_split (λ b. b == 124) text)) (count_by (λ b. b == 124) text) (length-map (slice_split (λ b. b == 124) text) trim_white ∙ length-slice_split (λ b. b == 124) text) in
    gives_text 124 (IsPath (IsLastOf kind)) (IsPath (IsLastOf kind)) bar_apart.white refl (kind_path kind) (kind_path kind) (paths_meaning scope) text (trimmed_from text trimmed) r
    (subst (λ pieces. Gives {W = WrittenPaths} (λ w. AreWrittenAndLast (IsPath (IsLastOf kind)) (IsPath (IsLastOf kind)) w.0 w.1 pieces) (paths_meaning scope) r) (sym last.2)
    (gives_alike (IsPath (IsLastOf kind)) (λ paths. all_there (map (path_meaning scope) paths)) last.0 last.1 r
    (subst (λ pieces. Gives (λ paths. AreWritten (IsPath (IsLastOf kind)) paths pieces) (λ paths. all_there (map (path_meaning scope) paths)) r) last.2 gives)))

-- what is answered
pub reading : {W V : Type 0} (I : W → Type 0) (m : W → Option V) (read : Result (Option V) Refusal) (answer : Result V XPathFault) → answer_of read ≡ Some answer → Gives I m read → IsReading I m answer
reading {V = V} I m (Ok (Some value)) answer is gives = let same : Ok value ≡ answer = cc in subst (IsReading I m) same gives
reading I m (Ok None) answer is gives = let same : Err faults.Unbound ≡ answer = cc in subst (IsReading I m) same gives
reading I m (Err Syntax) answer is gives = let same : Err faults.Syntax ≡ answer = cc in subst (IsReading I m) same gives
reading I m (Err Memory) answer is gives = absurd cc

pub read_answer : {W V X : Type 0} (I : W → Type 0) (m : W → Option V) (read : Result (Option V) Refusal) (result : Result (Result V XPathFault) X) → IfOk result (λ answer. answer_of read ≡ Some answer) → Gives I m read → IfOk result (IsReading I m)
read_answer I m read (Ok answer) is gives = reading I m read answer is gives
read_answer I m read (Err none) is gives = tt
