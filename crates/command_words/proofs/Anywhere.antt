-- The option among positional words.
use Rattle.std.proofs.Common.{◌≡◌, inl, inr, suc, List, [], ◌∷◌, ◌++◌, Some, None, refl, sym, subst, ap, ◌∙◌, arith}
use Rattle.std.specs.List.{All}
use Rattle.command_words.specs.Requests.{IsOption, IsPositional, line, with_positional, with_value}
use Rattle.command_words.proofs.Lines.{Text, named}

front_of : (w : Text) (more : List Text) → All IsPositional (w ∷ more) → IsPositional w
front_of w more all = all 0 w (omega arith)

rest_of : (w : Text) (more : List Text) → All IsPositional (w ∷ more) → All IsPositional more
rest_of w more all = λ k d lt. all (suc k) d (omega arith)

positional_first : (w : Text) (more : List Text) → IsPositional w → line (w ∷ more) ≡ with_positional w (line more)
positional_first w [] is = rw (is.0, is.1) refl
positional_first w (next ∷ more) is = rw (is.0, is.1) refl

glued : (v : Text) (more : List Text) → line (named v ∷ more) ≡ with_value v (line more)
glued v [] = refl
glued v (next ∷ more) = refl

option_first : (one more : List Text) (v : Text) → IsOption one v → line (one ++ more) ≡ with_value v (line more)
option_first one more v (inl is) = subst (λ (o : List Text). line (o ++ more) ≡ with_value v (line more)) (sym is) refl
option_first one more v (inr is) = subst (λ (o : List Text). line (o ++ more) ≡ with_value v (line more)) (sym is) (glued v more)

pub none : (words : List Text) → All IsPositional words → line words ≡ Some (record { positional = words; value = None })
none [] all = refl
none (w ∷ more) all = positional_first w more (front_of w more all) ∙ ap (with_positional w) (none more (rest_of w more all))

pub once : (front one back : List Text) (v : Text) → All IsPositional front → IsOption one v → All IsPositional back
    → line (front ++ (one ++ back)) ≡ Some (record { positional = front ++ back; value = Some v })
once [] one back v all is last = option_first one back v is ∙ ap (with_value v) (none back last)
once (w ∷ front) one back v all is last =
    positional_first w (front ++ (one ++ back)) (front_of w front all) ∙ ap (with_positional w) (once front one back v (rest_of w front all) is last)

pub twice : (front one middle other back : List Text) (x y : Text) → All IsPositional front → IsOption one x → All IsPositional middle
    → IsOption other y → All IsPositional back → line (front ++ (one ++ (middle ++ (other ++ back)))) ≡ None
twice [] one middle other back x y all is between next last =
    option_first one (middle ++ (other ++ back)) x is ∙ ap (with_value x) (once middle other back y between next last)
twice (w ∷ front) one middle other back x y all is between next last =
    positional_first w (front ++ (one ++ (middle ++ (other ++ back)))) (front_of w front all)
    ∙ ap (with_positional w) (twice front one middle other back x y (rest_of w front all) is between next last)
