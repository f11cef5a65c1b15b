pub mod RawRecord
