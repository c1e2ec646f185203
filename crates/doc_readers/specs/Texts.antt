-- Texts among the children of a node.
use Rattle.std.specs.Prelude.{◌≡◌, ◌≤◌, ℕ, ◌+◌, not, count_by, take}
use Rattle.doc_nodes.specs.Nodes.{Nodes, node, children_by, is_element_at}

-- how many of the children of a node before a place are texts
abbrev pub texts_upto : Nodes → ℕ → ℕ → ℕ
texts_upto ns n place = count_by (λ c. not (is_element_at ns c)) (take place (children_by (node ns n)))

-- the first text among the children of a node from a place on stands at this one
pub record IsNextText (ns : Nodes) (n from place : ℕ) : Type 0 where
  pub past : from ≤ place
  pub none_between : texts_upto ns n place ≡ texts_upto ns n from
  pub is_text : texts_upto ns n (place + 1) ≡ texts_upto ns n place + 1
