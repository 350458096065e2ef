pub mod CutLemmas
pub mod ProgressLemmas
pub mod PullLemmas
pub mod RecordLemmas
pub mod RunLemmas
pub mod StreamLemmas
pub mod TransferLemmas
