-- What the dirty page table keeps of each page: the first record that its image last synced lacks, and that which its image
-- last written lacks.
use Rattle.std.specs.Prelude.{ℕ, List, Option, Some, None, slice_index_or}
use Rattle.als_record.specs.declared.lsn.Lsn.{Lsn}
use Rattle.als_dirty.specs.declared.dirty_page.DirtyPage.{DirtyPage}

-- a page of which no image lacks a record
abbrev pub untouched_page : DirtyPage
untouched_page = record { synced = None; written = None }

-- what the table keeps of a page
abbrev pub entry_of : List DirtyPage → ℕ → DirtyPage
entry_of pages page = slice_index_or pages page untouched_page

-- the first record that an image lacks, after one more record on the page
abbrev pub first_of : Option Lsn → Lsn → Option Lsn
first_of None lsn = Some lsn
first_of (Some next) lsn = Some next

-- a page after a record of the log that changes it
abbrev pub after_record : DirtyPage → Lsn → DirtyPage
after_record e lsn = record { synced = first_of e.synced lsn; written = first_of e.written lsn }

-- a page after a write of an image that this record is the first to change
abbrev pub after_write : DirtyPage → Option Lsn → DirtyPage
after_write e next = record { synced = e.synced; written = next }

-- a page after a sync of its device
abbrev pub after_sync : DirtyPage → DirtyPage
after_sync e = record { synced = e.written; written = e.written }

-- a page after a read of its only image, which this record is the first to change
abbrev pub after_load : Option Lsn → DirtyPage
after_load next = record { synced = next; written = next }
