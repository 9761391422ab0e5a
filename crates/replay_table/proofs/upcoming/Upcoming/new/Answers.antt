use Rattle.replay_table.proofs.upcoming.Upcoming.new.Goals as goal

pub advance-requires : goal.advance-requires
advance-requires c =
    let can = c.requires in
    record {
      valid = can.valid;
      image_is = can.image_is;
      inside = can.inside;
      within = can.within;
      coming = c.new.ensures c.args.which c.args.recording.now c.args.core.now.id can.valid;
    }
