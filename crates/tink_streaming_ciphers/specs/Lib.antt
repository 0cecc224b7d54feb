pub mod SegmentCiphers
pub mod SegmentKeys
pub mod AesVariants
pub mod StreamSegments
