-- What is true of each number that a form is made of, where it is of all that particles stand for.
use Rattle.std.proofs.Common.{ℕ, ◌&&◌, Bool, true, false, if◌then◌else◌, List, [], ◌∷◌, Option, None, Some}
use Rattle.std.specs.Prelude.{⊤, All as Each, IfSome}
use Rattle.std.proofs.lemmas.List.Elements.{All-head, All-tail}
use Rattle.particle_models.specs.Particles.{Particle, Particles, term, sequence, choice, all_of, occurs, none as no_particles, member as and_particles}
use Rattle.particle_models.specs.Pointless.{is_once, is_pointless_empty, unless_pointless, stands_in, members_by, leaves, term_form, within, formed, gathered}
use Rattle.particle_models.specs.Trees.{Tree, Trees, leaf, group, none, member, joined, once}
use Rattle.particle_models.specs.declared.part.Bounds.{Bounds}
use Rattle.particle_models.specs.declared.part.Compositor.{Compositor}
use Rattle.particle_models.specs.declared.part.Compositor.TheVariants.{Sequence, Choice, All}

module _ (P : ℕ → Type 0) where
  abbrev mutual
    pub Inside : Tree → Type 0
    Inside (leaf bounds number) = P number
    Inside (group bounds compositor members) = AllInside members

    pub AllInside : Trees → Type 0
    AllInside none = ⊤
    AllInside (member first rest) = Inside first × AllInside rest

  abbrev pub FormInside : Option Tree → Type 0
  FormInside form = IfSome form Inside

  joined-inside : (ones others : Trees) → AllInside ones → AllInside others → AllInside (joined ones others)
  joined-inside none others p q = q
  joined-inside (member first rest) others p q = (p.0, joined-inside rest others p.1 q)

  leaves-inside : (ts : List ℕ) → Each P ts → AllInside (leaves ts)
  leaves-inside [] p = tt
  leaves-inside (t ∷ ts) p = (All-head P t ts p, leaves-inside ts (All-tail P t ts p))

  empty-inside : (bounds : Bounds) (compositor : Compositor) (pointless : Bool) → FormInside (if pointless then None else Some (group bounds compositor none))
  empty-inside bounds compositor true = tt
  empty-inside bounds compositor false = tt

  only-inside : (bounds : Bounds) (compositor : Compositor) (only : Tree) (pointless : Bool) → Inside only → FormInside (if pointless then Some only else Some (group bounds compositor (member only none)))
  only-inside bounds compositor only true p = p
  only-inside bounds compositor only false p = (p, tt)

  unless-inside : (bounds : Bounds) (compositor : Compositor) (members : Trees) → AllInside members → FormInside (unless_pointless bounds compositor members)
  unless-inside bounds compositor none p = empty-inside bounds compositor (is_pointless_empty bounds compositor)
  unless-inside bounds compositor (member only none) p = only-inside bounds compositor only (is_once bounds) p.0
  unless-inside bounds compositor (member first (member second rest)) p = p

  instead-inside : (bounds : Bounds) (inner : Compositor) (members : Trees) (stands : Bool) → AllInside members → AllInside (if stands then members else member (group bounds inner members) none)
  instead-inside bounds inner members true p = p
  instead-inside bounds inner members false p = (p, tt)

  members-inside : (compositor : Compositor) (form : Option Tree) → FormInside form → AllInside (members_by compositor form)
  members-inside compositor None p = tt
  members-inside compositor (Some (leaf bounds number)) p = (p, tt)
  members-inside compositor (Some (group bounds inner members)) p = instead-inside bounds inner members (is_once bounds && stands_in compositor inner) p

  term-inside : (bounds : Bounds) (ts : List ℕ) → Each P ts → FormInside (term_form bounds ts)
  term-inside bounds [] p = unless-inside bounds Choice none tt
  term-inside bounds (t ∷ []) p = All-head P t [] p
  term-inside bounds (t ∷ u ∷ ts) p = unless-inside bounds Choice (leaves (t ∷ u ∷ ts)) (leaves-inside (t ∷ u ∷ ts) p)

  module _ (stands_for : ℕ → List ℕ) (each : (number : ℕ) → Each P (stands_for number)) where
    mutual
      pub formed-inside : (particle : Particle) (bounds : Bounds) → FormInside (formed stands_for particle bounds)
      formed-inside (term number) bounds = term-inside bounds (stands_for number) (each number)
      formed-inside (sequence members) bounds = unless-inside bounds Sequence (gathered stands_for members Sequence) (gathered-inside members Sequence)
      formed-inside (choice members) bounds = unless-inside bounds Choice (gathered stands_for members Choice) (gathered-inside members Choice)
      formed-inside (all_of members) bounds = unless-inside bounds All (gathered stands_for members All) (gathered-inside members All)
      formed-inside (occurs least most part) bounds = formed-inside part (within bounds record { least = least; most = most })

      gathered-inside : (particles : Particles) (compositor : Compositor) → AllInside (gathered stands_for particles compositor)
      gathered-inside no_particles compositor = tt
      gathered-inside (and_particles first rest) compositor =
          joined-inside (members_by compositor (formed stands_for first once)) (gathered stands_for rest compositor)
          (members-inside compositor (formed stands_for first once) (formed-inside first once)) (gathered-inside rest compositor)
