-- All laws of a whole net. Assumes nothing.
use Rattle.network.specs.Laws.{NetworkLaws}
use Rattle.network.proofs.AlongLaws.{along_roads, roads_on_time, regulators_on_time}
use Rattle.network.proofs.TogetherLaws.{plays_together}
use Rattle.network.proofs.EndLaws.{end_to_end, before_deadline, delivered_in_time}
use Rattle.network.proofs.MomentLaws.{queues_kept, regulators_kept, switches_kept, memories_kept}
use Rattle.network.proofs.SourceLaws.{costless, source_waits_not}
use Rattle.network.proofs.RoadLineLaws.{nobody_lost}
use Rattle.network.proofs.ExampleLaws.{goes_round}

pub network_laws : NetworkLaws
network_laws =
    record {
      together = plays_together;
      along = along_roads;
      on_time = roads_on_time;
      waits = regulators_on_time;
      ends = end_to_end;
      deadline = before_deadline;
      delivered = delivered_in_time;
      queues = queues_kept;
      regulators = regulators_kept;
      switches = switches_kept;
      memories = memories_kept;
      costless = costless;
      source = source_waits_not;
      lost = nobody_lost;
      round = goes_round;
    }
