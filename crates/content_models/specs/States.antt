-- States along the words of an all.
use Rattle.std.specs.Prelude.{◌≡◌, ℕ, ◌^◌, ◌<◌, ◌↔◌, ◌==◌, ◌&&◌, ◌||◌, not, Bool, true, false, IsTrue, List, [], ◌∷◌, map, length, slice_index_or, nat_lt, bit_and, bit_or, if◌then◌else◌}
use Rattle.std.specs.Int.{bit_at}
use Rattle.particle_models.specs.Particles.{Particle}
use Rattle.particle_models.specs.Words.{IsWordOfNames, BeginsWord}
use Rattle.content_models.specs.Shape.{HaveNames, no_member}
use Rattle.content_models.specs.declared.member.AllMember.{AllMember}
use Rattle.content_models.specs.declared.state.AllState.{AllState}
use Rattle.content_models.specs.declared.machine.AllMachine.{AllMachine}

-- a member of this number was not seen yet
abbrev pub is_new : AllState → ℕ → Bool
is_new s letter = nat_lt letter 64 && not (bit_at s.seen letter == 1)

-- the state after a child of the member of this number, or of none; a member that was seen already ends every word
abbrev pub next_of : AllState → ℕ → AllState
next_of s letter = if is_new s letter then record { seen = bit_or s.seen (2 ^ letter); dead = s.dead } else record { seen = s.seen; dead = true }

-- the state before the first child
abbrev pub start_of : AllMachine → AllState
start_of m = record { seen = 0; dead = not (m.optional || m.has_words) }

-- the children so far are a word: none where the all may be left out, or all that are required
abbrev pub accepts_at : AllMachine → AllState → Bool
accepts_at m s = not s.dead && ((m.optional && (s.seen == 0)) || (bit_and s.seen m.required == m.required))

-- the state after some children
abbrev pub run : AllState → List ℕ → AllState
run s [] = s
run s (letter ∷ letters) = run (next_of s letter) letters

-- the state after the first children
abbrev pub state_of : AllMachine → List ℕ → AllState
state_of m letters = run (start_of m) letters

-- what is known of an all of these members
pub record IsMachineOf (inhabited : List Bool) (members : List AllMember) (optional : Bool) (m : AllMachine) : Type 0 where
  pub required : (i : ℕ) → (bit_at m.required i ≡ 1) ↔ ((i < length members) × (0 < (slice_index_or members i no_member).least))
  pub optional_is : m.optional ≡ optional
  pub has_words : IsTrue m.has_words ↔ HaveNames inhabited members

-- After names the state is not dead exactly where they begin a word of the model, and accepting exactly where they are one.
pub record Recognizes {Name : Type 0} (accepts : ℕ → Name → Bool) (model : Particle) (letter : Name → ℕ) (m : AllMachine) : Type 0 where
  pub live : (names : List Name) → ((state_of m (map letter names)).dead ≡ false) ↔ BeginsWord accepts model names
  pub accepting : (names : List Name) → IsTrue (accepts_at m (state_of m (map letter names))) ↔ IsWordOfNames accepts model names
