-- Number 20 is asked of exactly the tables that a call is lent: those that it reads or writes.
use Rattle.std.specs.Prelude.{◌≡◌, Bool, ◌&&◌}
use Rattle.rules.specs.Tables.{volumes_formed, commits_formed, checkpoints_formed, index_formed, presence_formed, tags_formed}
use Rattle.rules.specs.Write.{logs_formed}
use Rattle.rules.specs.Calls.{Tables, Change, writing, opening, saving, preparing, succeeding, dropping, recovering, syncing, copying, copying_ref, deleting_volume, marking, unmarking, unmarking_all, deleting_tag, replacing_tag, Reading, taking_snapshot, checking_latest, walking, listing_missing, listing_commits, searching, reading_volume, asking_volume, listing_volumes, reading_commit, reading_latest_lsn, reading_latest, reading_count, looking_up_checkpoint, listing_lsns, asking_page, reading_tag, asking_tag, listing_tags}

-- the tables lent to a changing call are well formed
abbrev pub lent_to_change : Tables → Change → Bool
lent_to_change t (writing c) = logs_formed t.logs
lent_to_change t (opening a x) = volumes_formed t.volumes && commits_formed t.logs.commits
lent_to_change t (saving vid s count sid pages) = volumes_formed t.volumes && logs_formed t.logs && presence_formed t.presence
lent_to_change t (preparing vid p) = volumes_formed t.volumes && commits_formed t.logs.commits
lent_to_change t (succeeding vid c) = volumes_formed t.volumes && logs_formed t.logs
lent_to_change t (dropping vid) = volumes_formed t.volumes
lent_to_change t (recovering vid) = volumes_formed t.volumes && logs_formed t.logs
lent_to_change t (syncing vid) = volumes_formed t.volumes && commits_formed t.logs.commits
lent_to_change t (copying s x) = volumes_formed t.volumes && logs_formed t.logs
lent_to_change t (copying_ref log lsn x) = volumes_formed t.volumes && logs_formed t.logs
lent_to_change t (deleting_volume vid) = volumes_formed t.volumes
lent_to_change t (marking sid page) = presence_formed t.presence
lent_to_change t (unmarking sid page) = presence_formed t.presence
lent_to_change t (unmarking_all sid a b) = presence_formed t.presence
lent_to_change t (deleting_tag name) = tags_formed t.tags
lent_to_change t (replacing_tag name vid) = tags_formed t.tags

-- the tables lent to a reading call are well formed
abbrev pub lent_to_reading : Tables → Reading → Bool
lent_to_reading t (taking_snapshot vid) = volumes_formed t.volumes && commits_formed t.logs.commits
lent_to_reading t (checking_latest vid s) = volumes_formed t.volumes && commits_formed t.logs.commits
lent_to_reading t (walking slots s) = commits_formed t.logs.commits
lent_to_reading t (listing_missing slots s) = commits_formed t.logs.commits && presence_formed t.presence
lent_to_reading t (listing_commits slots s) = commits_formed t.logs.commits
lent_to_reading t (searching s p) = commits_formed t.logs.commits && index_formed t.logs.index
lent_to_reading t (reading_volume vid) = volumes_formed t.volumes
lent_to_reading t (asking_volume vid) = volumes_formed t.volumes
lent_to_reading t (listing_volumes slots) = volumes_formed t.volumes
lent_to_reading t (reading_commit log lsn) = commits_formed t.logs.commits
lent_to_reading t (reading_latest_lsn log) = commits_formed t.logs.commits
lent_to_reading t (reading_latest log) = commits_formed t.logs.commits
lent_to_reading t (reading_count log lsn) = commits_formed t.logs.commits
lent_to_reading t (looking_up_checkpoint log lsn) = checkpoints_formed t.logs.checkpoints
lent_to_reading t (listing_lsns slots r) = commits_formed t.logs.commits
lent_to_reading t (asking_page sid page) = presence_formed t.presence
lent_to_reading t (reading_tag name) = tags_formed t.tags
lent_to_reading t (asking_tag name) = tags_formed t.tags
lent_to_reading t (listing_tags slots) = tags_formed t.tags

-- two states of the tables that agree on what the changing call is lent
abbrev pub SameForChange : Tables → Tables → Change → Type 0
SameForChange t u (writing c) = t.logs ≡ u.logs
SameForChange t u (opening a x) = (t.volumes ≡ u.volumes) × (t.logs.commits ≡ u.logs.commits)
SameForChange t u (saving vid s count sid pages) = (t.volumes ≡ u.volumes) × (t.logs ≡ u.logs) × (t.presence ≡ u.presence)
SameForChange t u (preparing vid p) = (t.volumes ≡ u.volumes) × (t.logs.commits ≡ u.logs.commits)
SameForChange t u (succeeding vid c) = (t.volumes ≡ u.volumes) × (t.logs ≡ u.logs)
SameForChange t u (dropping vid) = t.volumes ≡ u.volumes
SameForChange t u (recovering vid) = (t.volumes ≡ u.volumes) × (t.logs ≡ u.logs)
SameForChange t u (syncing vid) = (t.volumes ≡ u.volumes) × (t.logs.commits ≡ u.logs.commits)
SameForChange t u (copying s x) = (t.volumes ≡ u.volumes) × (t.logs ≡ u.logs)
SameForChange t u (copying_ref log lsn x) = (t.volumes ≡ u.volumes) × (t.logs ≡ u.logs)
SameForChange t u (deleting_volume vid) = t.volumes ≡ u.volumes
SameForChange t u (marking sid page) = t.presence ≡ u.presence
SameForChange t u (unmarking sid page) = t.presence ≡ u.presence
SameForChange t u (unmarking_all sid a b) = t.presence ≡ u.presence
SameForChange t u (deleting_tag name) = t.tags ≡ u.tags
SameForChange t u (replacing_tag name vid) = t.tags ≡ u.tags

-- two states of the tables that agree on what the reading call is lent
abbrev pub SameForReading : Tables → Tables → Reading → Type 0
SameForReading t u (taking_snapshot vid) = (t.volumes ≡ u.volumes) × (t.logs.commits ≡ u.logs.commits)
SameForReading t u (checking_latest vid s) = (t.volumes ≡ u.volumes) × (t.logs.commits ≡ u.logs.commits)
SameForReading t u (walking slots s) = t.logs.commits ≡ u.logs.commits
SameForReading t u (listing_missing slots s) = (t.logs.commits ≡ u.logs.commits) × (t.presence ≡ u.presence)
SameForReading t u (listing_commits slots s) = t.logs.commits ≡ u.logs.commits
SameForReading t u (searching s p) = (t.logs.commits ≡ u.logs.commits) × (t.logs.index ≡ u.logs.index)
SameForReading t u (reading_volume vid) = t.volumes ≡ u.volumes
SameForReading t u (asking_volume vid) = t.volumes ≡ u.volumes
SameForReading t u (listing_volumes slots) = t.volumes ≡ u.volumes
SameForReading t u (reading_commit log lsn) = t.logs.commits ≡ u.logs.commits
SameForReading t u (reading_latest_lsn log) = t.logs.commits ≡ u.logs.commits
SameForReading t u (reading_latest log) = t.logs.commits ≡ u.logs.commits
SameForReading t u (reading_count log lsn) = t.logs.commits ≡ u.logs.commits
SameForReading t u (looking_up_checkpoint log lsn) = t.logs.checkpoints ≡ u.logs.checkpoints
SameForReading t u (listing_lsns slots r) = t.logs.commits ≡ u.logs.commits
SameForReading t u (asking_page sid page) = t.presence ≡ u.presence
SameForReading t u (reading_tag name) = t.tags ≡ u.tags
SameForReading t u (asking_tag name) = t.tags ≡ u.tags
SameForReading t u (listing_tags slots) = t.tags ≡ u.tags
