-- SPDX-License-Identifier: MPL-2.0
pub mod State
pub mod Words
pub mod Key
pub mod Cipher
pub mod Cbc
