-- What is read of a text, told of the text that it is a part of.
use Rattle.std.proofs.Common.{◌≡◌, ℕ, ◌==◌, true≢false, length, length-append, arith, Bool, true, false, List, [], ◌∷◌, ◌++◌, Option, None, Some, Result, Ok, Err, ◌≢◌, refl, sym, ◌∙◌, ap, subst}
use Rattle.std.specs.Prelude.{codes}
use Rattle.std.specs.Option.{option_map}
use Rattle.std.proofs.lemmas.List.{append_cancel_left, append-nil}
use Rattle.std.specs.List.{list_any}
use Rattle.std.specs.Str.{chars}
use Rattle.xs_names.specs.Characters.{is_ncname}
use Rattle.xpath_subset.specs.declared.reading.Refusal.{Refusal}
use Rattle.xpath_subset.specs.declared.reading.Refusal.TheVariants.{Memory, Syntax}
use Rattle.xpath_subset.specs.inside.Gives.{Gives, IsAfter, LacksToken}
use Rattle.xpath_subset.specs.inside.Trims.{trim_front, IsTight}
use Rattle.xpath_subset.specs.declared.path.NameTest.{NameTest}
use Rattle.xpath_subset.specs.declared.path.Step.TheVariants as steps
use Rattle.xpath_subset.specs.Grammar.{WrittenTest, star, any_of, name, IsTest, Follows, WrittenStep, itself, child, attribute, IsElementStep, test_meaning, step_meaning}
use Rattle.xpath_subset.proofs.Trims.{front_cut, trim_front-gap}
use Rattle.xpath_subset.proofs.Plain.{test_tight}
use Rattle.xpath_subset.proofs.Tests.{test_no_colons, any_at}

pub gives_move : {W U V : Type 0} (I : W → Type 0) (m : W → Option V) (J : U → Type 0) (n : U → Option V) → ((w : W) → I w → (u : U) × J u) → ((u : U) → J u → (w : W) × I w × (n u ≡ m w)) → (r : Result (Option V) Refusal) → Gives I m r → Gives J n r
gives_move I m J n to from (Ok read) gives =
    (to gives.0.0 gives.0.1, λ u j. let back = from u j in back.2 ∙ gives.1 back.0 back.1)
gives_move I m J n to from (Err Syntax) gives = λ u j. let back = from u j in gives back.0 back.1
gives_move I m J n to from (Err Memory) gives = tt

pub gives_map : {W V X : Type 0} (I : W → Type 0) (m : W → Option V) (f : V → X) (read : Option V) → Gives I m (Ok read) → Gives I (λ w. option_map f (m w)) (Ok (option_map f read))
gives_map I m f read gives = (gives.0, λ w i. ap (option_map f) (gives.1 w i))

dot_name : is_ncname (chars (codes ".")) ≡ false
unfolding chars
dot_name = refl

-- `.` is no name test
pub dot_test : (test : WrittenTest) → IsTest test (codes ".") → ⊥
dot_test star reads = true≢false (ap (list_any (λ b. b == 42)) (sym reads.0))
dot_test (any_of prefix) reads = true≢false (sym (any_at (λ b. b == 58) prefix 58 (42 ∷ []) refl) ∙ sym (ap (list_any (λ b. b == 58)) reads.0))
dot_test (name None local) reads = true≢false (sym (subst (λ t. is_ncname (chars t) ≡ true) (sym reads.0) reads.1.1) ∙ dot_name)
dot_test (name (Some prefix) local) reads = true≢false (sym (any_at (λ b. b == 58) prefix 58 local refl) ∙ sym (ap (list_any (λ b. b == 58)) reads.0))

-- what follows a token
pub after_follows : (IsRest : List ℕ → Type 0) (token text rest : List ℕ) → IsAfter token text rest → IsRest rest → Follows token IsRest text
after_follows IsRest token text rest after reads =
    let cut = front_cut after.0 in
    (cut.0, rest, after.1 ∙ ap (λ more. token ++ more) (cut.2 ∙ ap (λ end. cut.0 ++ end) (sym after.2)), cut.1, reads)

pub follows_after : (IsRest : List ℕ → Type 0) → ((rest : List ℕ) → IsRest rest → IsTight rest) → (token text rest : List ℕ) → IsAfter token text rest → Follows token IsRest text → IsRest rest
follows_after IsRest tight token text rest after follows =
    let same : after.0 ≡ follows.0 ++ follows.1 = append_cancel_left token after.0 (follows.0 ++ follows.1) (sym after.1 ∙ follows.2) in
    let begins : trim_front follows.1 ≡ follows.1 = ap trim_front (sym (append-nil follows.1)) ∙ (tight follows.1 follows.4).begins [] ∙ append-nil follows.1 in
    subst IsRest (sym (after.2 ∙ ap trim_front same ∙ trim_front-gap follows.0 follows.1 follows.3 ∙ begins)) follows.4

-- a name test after `child::`, and alone
pub child_after : (text rest : List ℕ) → IsAfter (codes "child::") text rest → (u : Bool × WrittenTest) → IsElementStep (child u.0 u.1) text → IsTest u.1 rest
child_after text rest after u reads = by u.0 reads
  where
    by : (axis : Bool) → IsElementStep (child axis u.1) text → IsTest u.1 rest
    by false reads = absurd (test_no_colons (codes "child") after.0 refl u.1 (subst (IsTest u.1) after.1 reads))
    by true reads = follows_after (IsTest u.1) (test_tight u.1) (codes "child::") text rest after reads

pub child_alone : (text : List ℕ) → LacksToken (codes "child::") text → (u : Bool × WrittenTest) → IsElementStep (child u.0 u.1) text → IsTest u.1 text
child_alone text lacks u reads = by u.0 reads
  where
    by : (axis : Bool) → IsElementStep (child axis u.1) text → IsTest u.1 text
    by false reads = reads
    by true reads = absurd (lacks (reads.0 ++ reads.1) reads.2)

-- a step that is not `.`
pub child_step : (scope : List (List ℕ × ℕ)) (text : List ℕ) → text ≢ codes "." → (read : Option NameTest) → Gives {W = Bool × WrittenTest} (λ u. IsElementStep (child u.0 u.1) text) (λ u. test_meaning scope u.1) (Ok read) → Gives (λ step. IsElementStep step text) (step_meaning scope) (Ok (option_map steps.Child read))
child_step scope text other read gives = ((child gives.0.0.0 gives.0.0.1, gives.0.1), by)
  where
    by : (step : WrittenStep) → IsElementStep step text → step_meaning scope step ≡ option_map steps.Child read
    by itself reads = absurd (other reads)
    by (child axis test) reads = ap (option_map steps.Child) (gives.1 (axis, test) reads)
    by (attribute axis test) reads = absurd reads

pub no_step : (scope : List (List ℕ × ℕ)) (text : List ℕ) → text ≢ codes "." → (refusal : Refusal) → Gives {W = Bool × WrittenTest} {V = NameTest} (λ u. IsElementStep (child u.0 u.1) text) (λ u. test_meaning scope u.1) (Err refusal) → Gives (λ step. IsElementStep step text) (step_meaning scope) (Err refusal)
no_step scope text other Memory gives = tt
no_step scope text other Syntax gives = by
  where
    by : (step : WrittenStep) → IsElementStep step text → ⊥
    by itself reads = other reads
    by (child axis test) reads = gives (axis, test) reads
    by (attribute axis test) reads = reads

-- `.`
pub dot_step : (scope : List (List ℕ × ℕ)) (text : List ℕ) → text ≡ codes "." → Gives (λ step. IsElementStep step text) (step_meaning scope) (Ok (Some steps.Itself))
dot_step scope text dot = ((itself, dot), by)
  where
    by : (step : WrittenStep) → IsElementStep step text → step_meaning scope step ≡ Some steps.Itself
    by itself reads = refl
    by (child false test) reads = absurd (dot_test test (subst (IsTest test) dot reads))
    by (child true test) reads = absurd (let lengths : 1 ≡ length (codes "child::" ++ (reads.0 ++ reads.1)) = ap length (sym dot ∙ reads.2) in let all = length-append (codes "child::") (reads.0 ++ reads.1) in omega (arith, lengths, all))
    by (attribute axis test) reads = absurd reads
