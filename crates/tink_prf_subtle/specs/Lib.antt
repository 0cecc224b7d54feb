pub mod AesCmac
pub mod AesVariants
pub mod Hkdf
pub mod Hmac
