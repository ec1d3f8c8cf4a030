-- What a reader reads, in this order: what comes of one job, what stands in a log, what a worker
-- is and how work changes it, and what a log says once its seat was told.
pub mod Entries
pub mod Logs
pub mod Workers
pub mod Told
pub mod inside
