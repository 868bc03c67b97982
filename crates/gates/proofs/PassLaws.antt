-- Whether a packet may pass, and what is spent, read off the levels of the code. Assumes nothing.
use Rattle.std.proofs.Common.{◌≡◌, ℕ, ◌<◌, ◌≤◌, false, ◌⊎◌, List, map, length, get_or, set, sym, ap, ◌∙◌, inl, inr}
use Rattle.std.proofs.lemmas.List.{get_or-map, map-set, length-map}
use Rattle.std.proofs.lemmas.Bool.{le-ltb, and_left, and_right}
use Rattle.lines.specs.declared.packet.Packet.{Packet}
use Rattle.levels.specs.declared.level.Level.{Level}
use Rattle.levels.specs.Levels.{at_tick, spent}
use Rattle.levels.specs.Models.{level_model}
use Rattle.gates.specs.Gates.{no_level, level_of, known, may_go, spent_by}

module _ (room : ℕ) (classes : List ℕ) (tick : ℕ) (packet : Packet) (levels : List Level) (ls : List (List Packet)) where
  -- a flow past the end of the tables may not go
  pub not_known : (length levels ≤ packet.flow) ⊎ (length classes ≤ packet.flow) → false ≡ may_go room classes tick packet (map level_model levels) ls
  not_known past = sym (and_left (known classes packet (map level_model levels)) _ (unknown past))
    where
      unknown : (length levels ≤ packet.flow) ⊎ (length classes ≤ packet.flow) → known classes packet (map level_model levels) ≡ false
      unknown (inl past) = and_left _ _ (le-ltb packet.flow (length (map level_model levels)) (simp length-map past))
      unknown (inr past) = and_right _ _ (le-ltb packet.flow (length classes) past)

  module _ (level now : Level) (in-levels : packet.flow < length levels) (in-classes : packet.flow < length classes)
      (read : level ≡ get_or levels packet.flow level) (is : level_model now ≡ at_tick (level_model level) tick) where
    level-at : level_model now ≡ at_tick (level_of (map level_model levels) packet) tick
    level-at = is ∙ ap (λ l. at_tick l tick) (ap level_model read ∙ sym (get_or-map level_model levels packet.flow level no_level in-levels))

    pub is_spent : (after : Level) → level_model after ≡ spent (level_model now) packet.length →
        map level_model (set levels packet.flow after) ≡ spent_by tick packet (map level_model levels)
    is_spent after less =
        map-set level_model levels packet.flow after ∙
        ap (set (map level_model levels) packet.flow) (less ∙ ap (λ l. spent l packet.length) level-at)
