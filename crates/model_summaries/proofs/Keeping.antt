-- What the calls of rows leave of a summary's cells.
use Rattle.std.proofs.Common.{◌≡◌, ◌≢◌, ℕ, List, [], Option, Some, None, refl, sym, ap, subst, ◌∙◌}
use Rattle.std.specs.Prelude.{unwrap_or}
use Rattle.child_trees.specs.Laws.{KeepsCells}
use Rattle.map_rows.specs.Rows.{RowMap, get, IsLive, Updates}
use Rattle.model_summaries.specs.Maps.{IsMap, IsMapRow, map_at}

pub live-row : (v : RowMap) (r : ℕ) → IsMapRow v r → IsLive v r
live-row v r h = (h.row, h.is)

module _ (old new : RowMap) (r : ℕ) (row : Option (List ℕ)) (h : Updates old new r row) where
  stays : (c : ℕ) → IsMapRow old c → c ≢ r → IsMapRow new c
  stays c live other = record { row = live.row; is = h.others c other ∙ live.is; lawful = subst (λ w. IsMap w live.row) (sym h.width) live.lawful }

  pub kept : KeepsCells IsMapRow map_at (λ c. c ≡ r) old new
  kept = record {
    stays = stays;
    same = λ c live other. ap (λ o. unwrap_or o []) (h.others c other);
  }

  -- the row was not live
  module _ (free : get old r ≡ None) where
    apart : (c : ℕ) → IsMapRow old c → c ≢ r
    apart c live e = let z : Some live.row ≡ None = sym live.is ∙ (ap (get old) e ∙ free) in cc

    pub kept-free : KeepsCells IsMapRow map_at (λ _. ⊥) old new
    kept-free = record {
      stays = λ c live _. stays c live (apart c live);
      same = λ c live _. ap (λ o. unwrap_or o []) (h.others c (apart c live));
    }

pub fresh : (v : RowMap) (r : ℕ) → get v r ≡ None → ¬ IsMapRow v r
fresh v r e live = let z : Some live.row ≡ None = sym live.is ∙ e in cc

-- the row that is written
module _ (old new : RowMap) (r : ℕ) (row : List ℕ) (h : Updates old new r (Some row)) where
  pub now-live : IsMap old.width row → IsMapRow new r
  now-live m = record { row = row; is = h.changed; lawful = subst (λ w. IsMap w row) (sym h.width) m }

  pub now-is : map_at new r ≡ row
  now-is = ap (λ o. unwrap_or o []) h.changed

-- one change after another of the same row
pub twice : (old mid new : RowMap) (r : ℕ) (row next : Option (List ℕ)) → Updates old mid r row → Updates mid new r next → Updates old new r next
twice old mid new r row next g h = record {
  changed = h.changed;
  others = λ q other. h.others q other ∙ g.others q other;
  width = h.width ∙ g.width;
  cap = h.cap ∙ g.cap;
}

-- the rows of two cells
pub map-of : (v : RowMap) (c : ℕ) (h : IsMapRow v c) → get v c ≡ Some (map_at v c)
map-of v c h = h.is ∙ ap (λ o. Some (unwrap_or o [])) (sym h.is)
