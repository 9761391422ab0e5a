use Rattle.replay_threads.proofs.joint.replay_parallel.Given as goal

abbrev pub ghosts-run : goal.ghosts-run
ghosts-run g a = record { recording = a.recording.now; which = a.which }
